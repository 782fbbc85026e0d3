use Rattle.board_history.proofs.LaneShown.{some_then}
use Rattle.hub_lane.specs.Greeting.{CanBegin}
use Rattle.session_run.specs.Links.{HasStood}
use Rattle.session_run.proofs.Left.{fresh_stood}
use Rattle.session_run.proofs.laws.a_fresh_link_is_left.Goals as goal

pub returns : goal.returns
returns c = λ settings spec board scripts link fresh. record {
  board' = fresh.board';
  stood = some_then (CanBegin settings) (HasStood spec board scripts) link.telling
      (λ t begins. fresh_stood c.each_event_leads_to_a_state_of_a_run.ensures.begins settings spec board scripts t
      begins (c.a_lane_sends_a_merge_at_any_moment.ensures.nothing spec board scripts)) fresh.begins;
}
