use Rattle.std.proofs.Common.{ℕ, List, map, ap, ◌∙◌, subst, inl, inr, ◌≤◌}
use Rattle.world_model.specs.declared.offered.Fate.{Fate}
use Rattle.world_model.specs.Hub.{Hub, new_hub}
use Rattle.world_model.specs.History.{tag_of_offered, times}
use Rattle.std.specs.Prelude.{◌↔◌}
use Rattle.reliable_engine.specs.Events.{IsAmong}
use Rattle.reliable_engine.specs.MachineRuns.{IsBrought, engine_events, offers_in}
use Rattle.reliable_engine.specs.ToldFates.{IsAccounted, fate_places}
use Rattle.reliable_engine.proofs.MachineRuns.{all_wait, begins_at_work, run_accounted}
use Rattle.reliable_engine.proofs.PlaceAccounts.{told_once}
use Rattle.reliable_engine.proofs.RunFates.{each_is_brought, each_is_there}
use Rattle.reliable_engine.proofs.laws.machine_runs.each_reply_is_that_of_its_own_body.Goals as goal

pub returns-clause-exactly : goal.returns-clause-exactly
returns-clause-exactly c = λ first window rounds events traffic end fates tag fate fresh is.
    let start = new_hub first window rounds in
    let work = begins_at_work first window rounds events fresh in
    let same = ap (λ (x : Hub). x.fates) is.end_is ∙ is.fates_are in
    subst (λ (xs : List (ℕ × Fate)). IsAmong (tag, fate) xs ↔ IsBrought start events (tag, fate)) same (
      λ there. elim (each_is_brought start events (tag, fate) work fresh.sendable there) [
        | inl old ↦ absurd old
        | inr new ↦ new
      ],
      λ brought. each_is_there start events (tag, fate) work fresh.sendable brought,
    )

pub returns-clause-once : goal.returns-clause-once
returns-clause-once c = λ first window rounds events traffic end fates place is.
    let start = new_hub first window rounds in
    subst (λ (xs : List (ℕ × Fate)). times place (fate_places xs) ≤ 1)
    (all_wait start events ∙ (ap (λ (x : Hub). x.fates) is.end_is ∙ is.fates_are))
    (told_once first window rounds (engine_events events) place)

pub returns-clause-account : goal.returns-clause-account
returns-clause-account c = λ first window rounds events traffic end fates tag is.
    let tags = map tag_of_offered (offers_in events) in
    subst (λ (xs : List (ℕ × Fate)). IsAccounted end xs tags tag) is.fates_are
    (subst (λ (x : Hub). IsAccounted x x.fates tags tag) is.end_is (run_accounted first window rounds events tag))
