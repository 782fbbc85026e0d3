-- How the code keeps a pass.
use Rattle.std.specs.Prelude.{◌≡◌, Bool, true, false, List, [], ◌∷◌}
use Rattle.turn_pass.specs.declared.pass.Pass.TheInside.{Inside}
use Rattle.turn_pass.specs.Pass.{PassState}
use Rattle.turn_pass.specs.Rule.{Stage, View}
use Rattle.turn_pass.specs.Rule.Stage.{Idle, Took, Has, Stores}
use Rattle.turn_pass.specs.Steps.{spent_view, view_at_rest}

-- the one view, or that of a spent pass where there is none
abbrev pub view_of : List View → View
view_of [] = spent_view
view_of (v ∷ vs) = v

-- whether a pass at this stage has the value
abbrev pub has_value : Stage → Bool
has_value Idle = false
has_value (Took r) = false
has_value (Has r) = true
has_value (Stores r n) = false

abbrev pub state_of : Inside → PassState
state_of p =
    record {
      turn = p.badge.table_id;
      holds = has_value (view_of p.badge.views).stage;
      knows = (view_of p.badge.views).knows;
    }

-- a pass has one view, which is not spent, and is between calls
pub record IsWhole (p : Inside) : Type 0 where
  pub view_is : p.badge.views ≡ view_at_rest (state_of p).holds (state_of p).knows ∷ []
  pub number_is : (state_of p).knows.number ≡ p.number
  pub made_is : (state_of p).knows.made ≡ p.made
