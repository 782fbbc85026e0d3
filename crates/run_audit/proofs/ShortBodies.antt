-- The bodies of plans are short enough for a bus.
use Rattle.std.proofs.Common.{◌≡◌, ◌++◌, ◌+◌, ◌<◌, ◌≤◌, ◌∙◌, get_or, take, ℕ, List, [], ◌∷◌, length, arith, subst, sym, ap}
use Rattle.std.specs.List.{AllByRecursion}
use Rattle.std.proofs.lemmas.List.{map-append, take_more}
use Rattle.ipb_base.proofs.AllLemmas.{AllByRecursion-append}
use Rattle.mtu_packer.specs.Packed.{FitsPackets}
use Rattle.mtu_packer.specs.declared.packing.TheConstants.{MAX_PAYLOAD}
use Rattle.script_steps.specs.declared.operation.Step.{Step}
use Rattle.script_plans.specs.declared.greeting.Greeting.{Greeting}
use Rattle.script_plans.specs.declared.greeting.Greeting.TheVariants.{Live, Silent, Down}
use Rattle.script_plans.specs.Plan.{ClientBodies, FitGreeting, IsGreeting, planned_on, plans_on}
use Rattle.run_audit.specs.Replaying.{AreShort, HasShortBodies}

pub one_more_short : {A : Type 0} (P : A → Type 0) (xs : List A) (x : A) → AllByRecursion P xs → P x
    → AllByRecursion P (xs ++ x ∷ [])
one_more_short P xs x all here = AllByRecursion-append P xs (x ∷ []) all (here, tt)

fit_short : (payload : ℕ) (bodies : List (List ℕ)) → payload ≤ MAX_PAYLOAD → AllByRecursion (FitsPackets payload) bodies
    → AreShort bodies
fit_short payload [] most fit = tt
fit_short payload (body ∷ bodies) most fit =
    (omega (arith, fit.0.request), fit_short payload bodies most fit.1)

pub fitting_is_short : (greeting : Greeting) (board : ℕ) (steps : List Step) (plan : ClientBodies) → IsGreeting greeting
    → plan ≡ planned_on board greeting steps → FitGreeting greeting plan.bodies → HasShortBodies plan
fitting_is_short (Live payload) board steps plan is planned fit = fit_short payload plan.bodies is.1 fit
fitting_is_short Silent board steps plan is planned fit = subst HasShortBodies (sym planned) tt
fitting_is_short Down board steps plan is planned fit = subst HasShortBodies (sym planned) tt

pub plans_taken : (board : ℕ) (greeting : Greeting) (scripts : List (List Step)) (i : ℕ) (steps : List Step)
    (plans : List ClientBodies) (plan : ClientBodies) → i < length scripts → steps ≡ get_or scripts i steps
    → plans ≡ plans_on board greeting (take i scripts) → plan ≡ planned_on board greeting steps
    → plans ++ plan ∷ [] ≡ plans_on board greeting (take (i + 1) scripts)
plans_taken board greeting scripts i steps plans plan within is so_far next =
    let more : take (i + 1) scripts ≡ take i scripts ++ steps ∷ [] =
    take_more scripts i steps within ∙ ap (λ s. take i scripts ++ s ∷ []) (sym is) in
    rw (more, so_far, next) (sym (map-append (planned_on board greeting) (take i scripts) (steps ∷ [])))
