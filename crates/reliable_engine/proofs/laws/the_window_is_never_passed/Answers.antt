use Rattle.std.proofs.Common.{sym, subst, arith}
use Rattle.packet_ids.specs.Identifier.{IsIdentifier}
use Rattle.world_model.specs.Hub.{new_hub}
use Rattle.reliable_engine.specs.Events.{after_events}
use Rattle.reliable_engine.proofs.Runs.{in_window, new_is_hub, same_first, same_window, stays_hub}
use Rattle.reliable_engine.proofs.laws.the_window_is_never_passed.Goals as goal

pub returns-clause-in_window : goal.returns-clause-in_window
returns-clause-in_window c = λ first window rounds events is one few.
    let start = new_hub first window rounds in
    in_window (after_events start events) (subst IsIdentifier (sym (same_first start events)) is)
    (stays_hub start events (new_is_hub first window rounds few one))

pub returns-clause-number : goal.returns-clause-number
returns-clause-number c = λ first window rounds events one few.
    let start = new_hub first window rounds in
    let is = stays_hub start events (new_is_hub first window rounds few one) in
    omega (arith, is.within, same_window start events)
