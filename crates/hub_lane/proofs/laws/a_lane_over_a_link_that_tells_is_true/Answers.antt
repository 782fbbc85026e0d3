use Rattle.hub_lane.proofs.Truth.{TruthLaws, standing_true}
use Rattle.hub_lane.proofs.laws.a_lane_over_a_link_that_tells_is_true.Goals as goal

pub returns : goal.returns
returns c =
    let law = c.a_state_of_a_run_tells_the_truth.ensures in
    let laws : TruthLaws = record {
      executed = law.executed;
      all_fates = law.all_fates;
      all_lates = law.all_lates;
      same_board = law.same_board;
      history = law.history;
      replied = law.replied;
      timed_out = law.timed_out;
    } in
    standing_true laws
