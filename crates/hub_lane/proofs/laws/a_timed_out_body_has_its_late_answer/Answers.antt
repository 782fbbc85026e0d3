use Rattle.hub_lane.proofs.EachLate.{lane_keeps_each}
use Rattle.hub_lane.proofs.Truth.{TruthLaws}
use Rattle.hub_lane.proofs.laws.a_timed_out_body_has_its_late_answer.Goals as goal

pub returns : goal.returns
returns c =
    let law = c.a_state_of_a_run_tells_the_truth.ensures in
    let laws : TruthLaws = record {
      executed = law.executed;
      all_fates = law.all_fates;
      all_lates = law.all_lates;
      same_board = law.same_board;
      history = law.history;
      replied = law.replied;
      timed_out = law.timed_out;
    } in
    lane_keeps_each laws c.each_sent_place_is_open_or_answered.ensures
