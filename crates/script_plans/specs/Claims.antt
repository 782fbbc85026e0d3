-- What the laws say of plans.
use Rattle.std.specs.Prelude.{◌≡◌, ◌⊎◌, ℕ, ◌<◌, List, [], ◌∷◌, length}
use Rattle.std.specs.List.{AllByRecursion, Any}
use Rattle.script_plans.specs.Plan.{ClientBodies}
use Rattle.script_plans.specs.declared.planned.PieceAt.{PieceAt}

-- ---- the order of pieces

-- a piece in an earlier body, or before the other in the same one
abbrev pub IsBefore : PieceAt → PieceAt → Type 0
IsBefore p q = (p.body < q.body) ⊎ ((p.body ≡ q.body) × (p.index < q.index))

-- each item of a list stands so to each later one
abbrev pub Rises : {T : Type 0} → (T → T → Type 0) → List T → Type 0
Rises R [] = Unit {0}
Rises R (x ∷ xs) = AllByRecursion (R x) xs × Rises R xs

-- ---- pieces and bodies

-- each piece stands in a body that is there
abbrev pub HaveBodies : ClientBodies → Type 0
HaveBodies all = AllByRecursion (AllByRecursion (λ (piece : PieceAt). piece.body < length all.bodies)) all.pieces

-- some operation has a piece in the body of this number
abbrev pub HasPiece : ℕ → List (List PieceAt) → Type 0
HasPiece body pieces = Any (Any (λ (piece : PieceAt). piece.body ≡ body)) pieces
