-- The first rule that speaks of an access decides it.
use Rattle.std.proofs.Common.{◌≡◌, ℕ, ◌+◌, List, [], ◌∷◌, ◌++◌, Bool, true, false, ◌||◌, length, refl, ap, arith, ◌∙◌}
use Rattle.std.specs.List.{list_any}
use Rattle.script_steps.specs.declared.operation.Decision.TheVariants.{Denied}
use Rattle.access_policy.specs.Decisions.{decision_from, said}
use Rattle.access_policy.specs.declared.policy.Rule.{Rule}

neither : (a b : Bool) → (a || b) ≡ false → (a ≡ false) × (b ≡ false)
neither true b h = cc
neither false b h = (refl, h)

-- rules that do not speak are passed over
passed : (speaks : Rule → Bool) (number : ℕ) (rule : Rule) (rules : List Rule) → speaks rule ≡ false
    → decision_from speaks number (rule ∷ rules) ≡ decision_from speaks (number + 1) rules
passed speaks number rule rules is = rw is refl

pub first_decides : (speaks : Rule → Bool) (number : ℕ) (before : List Rule) (rule : Rule) (after : List Rule)
    → list_any speaks before ≡ false → speaks rule ≡ true
    → decision_from speaks number (before ++ rule ∷ after) ≡ said (length before + number) rule.effect
first_decides speaks number [] rule after silent is = rw is (ap (λ n. said n rule.effect) (omega arith))
first_decides speaks number (first ∷ before) rule after silent is =
    let not_these = neither (speaks first) (list_any speaks before) silent in
    passed speaks number first (before ++ rule ∷ after) not_these.0
    ∙ first_decides speaks (number + 1) before rule after not_these.1 is
    ∙ ap (λ n. said n rule.effect) (omega arith)

pub none_decides : (speaks : Rule → Bool) (number : ℕ) (rules : List Rule) → list_any speaks rules ≡ false
    → decision_from speaks number rules ≡ Denied 0
none_decides speaks number [] silent = refl
none_decides speaks number (first ∷ rules) silent =
    let not_these = neither (speaks first) (list_any speaks rules) silent in
    passed speaks number first rules not_these.0 ∙ none_decides speaks (number + 1) rules not_these.1
