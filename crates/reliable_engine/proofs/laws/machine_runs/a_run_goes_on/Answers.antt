use Rattle.std.proofs.Common.{refl, subst, List, [], ◌∷◌, ◌++◌, ℕ}
use Rattle.std.proofs.lemmas.List.{append-nil}
use Rattle.world_model.specs.declared.offered.Fate.{Fate}
use Rattle.world_model.specs.Hub.{offer}
use Rattle.reliable_engine.specs.MachineRuns.{IsMachineRun, Offer, Heard, Quiet}
use Rattle.reliable_engine.specs.Traffic.{Passed}
use Rattle.reliable_engine.proofs.MachineRuns.{one_more_event, one_more_send}
use Rattle.reliable_engine.proofs.laws.machine_runs.a_run_goes_on.Goals as goal

pub returns-clause-begins : goal.returns-clause-begins
returns-clause-begins c = λ hub. record { may_come = tt; traffic_is = refl; end_is = refl; fates_are = refl }

pub returns-clause-offered : goal.returns-clause-offered
returns-clause-offered c = λ hub end events traffic fates offered is.
    subst (λ (more : List Passed). IsMachineRun hub (events ++ Offer offered.tag offered.body ∷ []) more
    (offer end offered) fates) (append-nil traffic)
    (subst (λ (xs : List (ℕ × Fate)). IsMachineRun hub (events ++ Offer offered.tag offered.body ∷ []) (traffic ++ [])
    (offer end offered) xs) is.fates_are
    (one_more_event hub events traffic end fates (Offer offered.tag offered.body) is tt))

pub returns-clause-sent : goal.returns-clause-sent
returns-clause-sent c = one_more_send

pub returns-clause-heard : goal.returns-clause-heard
returns-clause-heard c = λ hub end events traffic fates bytes is none.
    one_more_event hub events traffic end fates (Heard bytes) is none

pub returns-clause-quiet : goal.returns-clause-quiet
returns-clause-quiet c = λ hub end events traffic fates is none waits.
    one_more_event hub events traffic end fates Quiet is (record { all_sent = none; waits = waits })
