use Rattle.world_model.specs.Hub.{new_hub}
use Rattle.reliable_engine.specs.Events.{after_events}
use Rattle.reliable_engine.proofs.Runs.{new_is_hub, stays_hub}
use Rattle.reliable_engine.proofs.SendOrder.{goes_by_place, new_last, status_first}
use Rattle.reliable_engine.proofs.laws.sends_go_in_order.Goals as goal

pub returns-clause-status_first : goal.returns-clause-status_first
returns-clause-status_first c = status_first

pub returns-clause-by_place : goal.returns-clause-by_place
returns-clause-by_place c = λ first window rounds events next one few e.
    let start = new_hub first window rounds in
    goes_by_place (after_events start events) next (stays_hub start events (new_is_hub first window rounds few one)) e

pub returns-clause-new_last : goal.returns-clause-new_last
returns-clause-new_last c = new_last
