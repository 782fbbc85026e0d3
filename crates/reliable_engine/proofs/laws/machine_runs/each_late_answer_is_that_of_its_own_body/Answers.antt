use Rattle.std.proofs.Common.{inl, inr, subst}
use Rattle.std.specs.Prelude.{◌↔◌}
use Rattle.world_model.specs.Hub.{Hub, new_hub}
use Rattle.reliable_engine.specs.MachineRuns.{HasLate, IsBroughtLate}
use Rattle.reliable_engine.proofs.MachineRuns.{begins_at_work}
use Rattle.reliable_engine.proofs.RunLates.{each_is_brought_late, each_late_is_there}
use Rattle.reliable_engine.proofs.laws.machine_runs.each_late_answer_is_that_of_its_own_body.Goals as goal

pub returns : goal.returns
returns c = λ first window rounds events traffic end fates place words fresh is.
    let start = new_hub first window rounds in
    let work = begins_at_work first window rounds events fresh in
    subst (λ (x : Hub). HasLate place words x.lates ↔ IsBroughtLate start events place words) is.end_is (
      λ there. elim (each_is_brought_late start events place words work fresh.sendable there) [
        | inl old ↦ absurd old
        | inr new ↦ new
      ],
      λ brought. each_late_is_there start events place words work fresh.sendable brought,
    )
