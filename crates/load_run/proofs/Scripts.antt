-- The steps of a client, operation by operation.
use Rattle.std.proofs.Common.{◌≡◌, ℕ, suc, ◌+◌, ◌-◌, ◌<◌, List, [], ◌∷◌, ◌++◌, ap, ◌∙◌, arith, append_assoc, append-nil}
use Rattle.script_steps.specs.declared.operation.Step.{Step}
use Rattle.script_steps.specs.declared.operation.Step.TheVariants.{Do, Dispatch}
use Rattle.load_run.specs.Generated.{operation, steps_behind}

-- one operation more, with its dispatch
pub one_step : (made : List Step) (before n : ℕ) → before < n
    → ((made ++ Do (operation before) ∷ []) ++ Dispatch ∷ []) ++ steps_behind (before + 1) (n - (before + 1))
    ≡ made ++ steps_behind before (n - before)
one_step made before n within =
    let left : suc (n - (before + 1)) ≡ n - before = omega arith in
    append_assoc (made ++ Do (operation before) ∷ []) (Dispatch ∷ []) _
    ∙ (append_assoc made (Do (operation before) ∷ []) _
    ∙ ap (λ (m : ℕ). made ++ steps_behind before m) left)

-- none is left
pub no_step : (made : List Step) (n : ℕ) → made ++ steps_behind n (n - n) ≡ made
no_step made n =
    let left : n - n ≡ 0 = omega arith in
    ap (λ (m : ℕ). made ++ steps_behind n m) left ∙ append-nil made
