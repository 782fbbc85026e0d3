-- What the law of runs says, for the proofs here: no public clause speaks of it.
use Rattle.std.specs.Prelude.{◌≡◌, ◌⊎◌, ◌↔◌, ℕ, List, Some, None}
use Rattle.world_model.specs.declared.offered.Fate.{Fate}
use Rattle.world_model.specs.Hub.{Hub, after_handing_out}
use Rattle.world_model.specs.Sends.{Next, next_send}
use Rattle.reliable_engine.specs.Events.{IsAmong}
use Rattle.reliable_engine.specs.MachineRuns.{HasLate, RunEvent, passed_in, run_event}

pub record HandingOutLaws : Type 0 where
  pub next : (hub : Hub) (next : Next) → next_send hub ≡ Some next → next_send (after_handing_out hub)
      ≡ Some (record { send = next.send; hub = after_handing_out next.hub })
  pub no_next : (hub : Hub) → next_send hub ≡ None → next_send (after_handing_out hub) ≡ None
  pub passes : (hub : Hub) (event : RunEvent) → passed_in (after_handing_out hub) event ≡ passed_in hub event
  pub same : (hub : Hub) (event : RunEvent)
      → after_handing_out (run_event (after_handing_out hub) event) ≡ after_handing_out (run_event hub event)
  pub fates : (hub : Hub) (event : RunEvent) (tag : ℕ) (fate : Fate)
      → IsAmong (tag, fate) (run_event hub event).fates
      ↔ (IsAmong (tag, fate) hub.fates ⊎ IsAmong (tag, fate) (run_event (after_handing_out hub) event).fates)
  pub lates : (hub : Hub) (event : RunEvent) (place : ℕ) (words : List ℕ)
      → HasLate place words (run_event hub event).lates
      ↔ (HasLate place words hub.lates ⊎ HasLate place words (run_event (after_handing_out hub) event).lates)
