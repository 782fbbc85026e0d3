-- What holds of scripts holds of them under a policy.
use Rattle.std.proofs.Common.{◌≡◌, ℕ, ◌+◌, ◌≤◌, List, [], ◌∷◌, length, Option, Some, None, refl, subst, sym}
use Rattle.std.specs.List.{AllByRecursion}
use Rattle.access_policy.specs.Decisions.{decisions, ruled_from, ruled_scripts}
use Rattle.access_policy.specs.declared.policy.Rule.{Rule}
use Rattle.script_steps.specs.declared.operation.Decision.{Decision}
use Rattle.script_steps.specs.declared.operation.Step.{Step}
use Rattle.script_steps.specs.RuledScripts.{AreRuled}
use Rattle.script_steps.specs.Packing.{AreWithinLimits}
use Rattle.script_steps.specs.Rulings.{steps_under_policy}

-- what holds of steps under any decisions, where it held of the steps
module _ (P : List Step → Type 0) (still : (steps : List Step) (ds : List Decision) → P steps → P (steps_under_policy steps ds)) where
  all_from : (rules : List Rule) (names : List (List ℕ)) (client : ℕ) (scripts : List (List Step))
      → AllByRecursion P scripts → AllByRecursion P (ruled_from rules names client scripts)
  all_from rules names client [] are = tt
  all_from rules names client (steps ∷ scripts) are = (
    still steps (decisions rules client names steps) are.0,
    all_from rules names (client + 1) scripts are.1,
  )

  all_under : (policy : Option (List Rule)) (names : List (List ℕ)) (scripts : List (List Step))
      → AllByRecursion P scripts → AllByRecursion P (ruled_scripts policy names scripts)
  all_under None names scripts are = are
  all_under (Some rules) names scripts are = all_from rules names 1 scripts are

  pub all_still : (policy : Option (List Rule)) (names : List (List ℕ)) (scripts now : List (List Step))
      → now ≡ ruled_scripts policy names scripts → AllByRecursion P scripts → AllByRecursion P now
  all_still policy names scripts now is are =
      subst (λ (all : List (List Step)). AllByRecursion P all) (sym is) (all_under policy names scripts are)

are_ruled : (rules : List Rule) (names : List (List ℕ)) (client : ℕ) (scripts : List (List Step))
    → AreRuled scripts (ruled_from rules names client scripts)
are_ruled rules names client [] = tt
are_ruled rules names client (steps ∷ scripts) =
    ((decisions rules client names steps, refl), are_ruled rules names (client + 1) scripts)

module _ (limits : (scripts now : List (List Step)) → AreRuled scripts now → AreWithinLimits scripts
    → AreWithinLimits now) where
  within_under : (policy : Option (List Rule)) (names : List (List ℕ)) (scripts : List (List Step))
      → AreWithinLimits scripts → AreWithinLimits (ruled_scripts policy names scripts)
  within_under None names scripts within = within
  within_under (Some rules) names scripts within =
      limits scripts (ruled_from rules names 1 scripts) (are_ruled rules names 1 scripts) within

  pub within_still : (policy : Option (List Rule)) (names : List (List ℕ)) (scripts now : List (List Step))
      → now ≡ ruled_scripts policy names scripts → AreWithinLimits scripts → AreWithinLimits now
  within_still policy names scripts now is within =
      subst (λ (all : List (List Step)). AreWithinLimits all) (sym is) (within_under policy names scripts within)

-- no script has more steps than before
pub short_still : ((steps : List Step) (ds : List Decision) → length (steps_under_policy steps ds) ≡ length steps) → (most : ℕ)
    → (steps : List Step) (ds : List Decision) → length steps ≤ most → length (steps_under_policy steps ds) ≤ most
short_still count most steps ds few = subst (λ n. n ≤ most) (sym (count steps ds)) few
