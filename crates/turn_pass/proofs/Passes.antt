-- The view of a pass that holds nothing.
use Rattle.std.proofs.Common.{◌≡◌, false, List, [], ◌∷◌, ap, sym, ◌∙◌}
use Rattle.turn_pass.specs.PassInside.{has_value, view_of}
use Rattle.turn_pass.specs.Rule.{View}
use Rattle.turn_pass.specs.Rule.Stage.{Idle}
use Rattle.turn_pass.specs.Steps.{view_at, view_at_rest}

pub idle_pass : (views : List View) (v : View) → views ≡ v ∷ []
    → views ≡ view_at_rest (has_value (view_of views).stage) (view_of views).knows ∷ []
    → has_value (view_of views).stage ≡ false → v ≡ view_at Idle v.knows
idle_pass views v is whole idle =
    let seen : view_of views ≡ v = ap view_of is in
    sym seen ∙ (ap view_of whole
    ∙ (ap (λ b. view_at_rest b (view_of views).knows) idle ∙ ap (λ (z : View). view_at Idle z.knows) seen))
