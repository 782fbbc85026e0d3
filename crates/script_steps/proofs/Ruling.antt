-- Where nothing is left to rule.
use Rattle.std.proofs.Common.{◌≡◌, ◌⊎◌, inl, inr, ℕ, ◌≤◌, ◌<◌, List, [], ◌∷◌, ◌++◌, length, take, drop, min, refl, arith}
use Rattle.std.proofs.lemmas.Bool.{cases_lt}
use Rattle.std.proofs.lemmas.List.{take-append-drop, drop_all}
use Rattle.script_steps.specs.declared.operation.Step.{Step}
use Rattle.script_steps.specs.declared.operation.Decision.{Decision}
use Rattle.script_steps.specs.Rulings.{steps_under_policy}

-- without decisions the steps stay
ruled-none : (steps : List Step) → steps_under_policy steps [] ≡ steps
ruled-none [] = refl
ruled-none (step ∷ steps) = refl

lesser-within : (m n i : ℕ) → min m n ≤ i → (m ≤ i) ⊎ (n ≤ i)
lesser-within m n i h = cases (cases_lt i m) where
  cases : (i < m) ⊎ (m ≤ i) → (m ≤ i) ⊎ (n ≤ i)
  cases (inl below) = inr (omega arith)
  cases (inr past) = inl past

rest : (steps : List Step) (decisions : List Decision) (i : ℕ) → (length steps ≤ i) ⊎ (length decisions ≤ i)
    → steps_under_policy (drop i steps) (drop i decisions) ≡ drop i steps
rest steps decisions i (inl h) = rw (drop_all i steps h) refl
rest steps decisions i (inr h) = rw (drop_all i decisions h) (ruled-none (drop i steps))

-- where the steps end, or the decisions, nothing is left to rule
pub ruled_to_the_end : (steps : List Step) (decisions : List Decision) (i : ℕ) → min (length steps) (length decisions) ≤ i
    → take i steps ++ steps_under_policy (drop i steps) (drop i decisions) ≡ steps
ruled_to_the_end steps decisions i h =
    rw (rest steps decisions i (lesser-within (length steps) (length decisions) i h)) (take-append-drop i steps)
