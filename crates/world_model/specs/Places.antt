-- Places: the bodies that went to a board, numbered from 1 on by when each was sent for the first time. Profile.
use Rattle.std.specs.Prelude.{ℕ, zero, suc, List, Option, None}
use Rattle.std.specs.List.{slice_get}

-- what stands at a place, counted from 1
abbrev pub at_place : {A : Type 0} → List A → ℕ → Option A
at_place xs zero = None
at_place xs (suc k) = slice_get xs k
