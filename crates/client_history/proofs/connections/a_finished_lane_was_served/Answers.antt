use Rattle.script_plans.specs.declared.greeting.Greeting.TheVariants.{Live}
use Rattle.client_history.specs.Boards.{run_of}
use Rattle.client_history.proofs.Parts.{none_late, record_shown, same_joined}
use Rattle.client_history.proofs.connections.a_finished_lane_was_served.Goals as goal

pub returns : goal.returns
returns c = λ settings spec link payload connections items outcomes lates give_ups of packets is lane. record {
  asked = tt;
  board' = of;
  as_told = c.a_finished_lane_is_live.ensures settings spec
      (run_of spec (record { told = Live payload; connections = connections })) link payload items outcomes lates
      give_ups (same_joined connections) packets (record_shown connections items is) (none_late lates connections) lane;
}
