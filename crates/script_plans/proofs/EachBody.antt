-- Each body of a plan has a piece.
use Rattle.std.proofs.Common.{◌≡◌, ℕ, ◌+◌, ◌-◌, ◌<◌, List, [], ◌∷◌, length, map, inl, inr, subst, ap, arith}
use Rattle.std.proofs.Common.{length-append}
use Rattle.std.specs.List.{Any, fold}
use Rattle.std.proofs.lemmas.Bool.{cases_lt}
use Rattle.transaction_codec.specs.declared.request.Op.{Op}
use Rattle.mtu_packer.specs.declared.packed.Piece.{Piece}
use Rattle.mtu_packer.specs.Packed.{Contents, packed_contents, IsIn}
use Rattle.mtu_packer.specs.Packed as packing
use Rattle.mtu_packer.proofs.AnyLemmas.{any_same, any_front, any_back, any_map}
use Rattle.script_steps.specs.declared.operation.RegOp.{RegOp}
use Rattle.script_steps.specs.declared.operation.Step.{Step}
use Rattle.script_plans.specs.declared.planned.PieceAt.{PieceAt}
use Rattle.script_plans.specs.Plan.{ClientBodies, no_bodies, piece_behind, ops_on, dispatches, plan, with_dispatch}
use Rattle.script_plans.specs.Plan.{all_dispatches}
use Rattle.script_plans.specs.Claims.{HasPiece}

-- each body of a packing has a piece
abbrev pub BodiesHavePieces : Type 0
BodiesHavePieces =
    (ops : List Op) (payload body : ℕ) → body < length (packed_contents payload ops).bodies
    → packing.HasPiece body (packed_contents payload ops).pieces

-- and so does each body that was planned so far
abbrev AllHavePieces : ClientBodies → Type 0
AllHavePieces all = (body : ℕ) → body < length all.bodies → HasPiece body all.pieces

abbrev IsAt : ℕ → PieceAt → Type 0
IsAt body piece = piece.body ≡ body

moved_piece : (first body : ℕ) (ps : List Piece) → Any (IsIn body) ps → Any (IsAt (first + body)) (map (piece_behind first) ps)
moved_piece first body ps any =
    any_map (IsAt (first + body)) (piece_behind first) ps
    (any_same (IsIn body) (λ (p : Piece). first + p.body ≡ first + body) ps (λ p is. ap (λ n. first + n) is) any)

moved_pieces : (first body : ℕ) (pieces : List (List Piece)) → packing.HasPiece body pieces
    → HasPiece (first + body) (map (λ ps. map (piece_behind first) ps) pieces)
moved_pieces first body pieces has =
    any_map (Any (IsAt (first + body))) (λ ps. map (piece_behind first) ps) pieces
    (any_same (Any (IsIn body)) (λ (ps : List Piece). Any (IsAt (first + body)) (map (piece_behind first) ps)) pieces
    (λ ps any. moved_piece first body ps any) has)

next_has : (all : ClientBodies) (c : Contents) → AllHavePieces all
    → ((body : ℕ) → body < length c.bodies → packing.HasPiece body c.pieces) → AllHavePieces (with_dispatch all c)
next_has all c have more body within =
    let later = map (λ ps. map (piece_behind (length all.bodies)) ps) c.pieces in
    elim (cases_lt body (length all.bodies)) [
      | inl front ↦ any_front (Any (IsAt body)) all.pieces later (have body front)
      | inr back ↦
          let j = body - length all.bodies in
          let same : length all.bodies + j ≡ body = omega arith in
          let below : j < length c.bodies = omega (arith, length-append all.bodies c.bodies) in
          any_back (Any (IsAt body)) all.pieces later
          (subst (λ n. HasPiece n later) same (moved_pieces (length all.bodies) j c.pieces (more j below)))
    ]

from_dispatches : BodiesHavePieces → (payload board : ℕ) (ds : List (List RegOp)) (all : ClientBodies)
    → AllHavePieces all
    → AllHavePieces (fold with_dispatch all (map (λ dispatch. packed_contents payload (ops_on board dispatch)) ds))
from_dispatches law payload board [] all have = have
from_dispatches law payload board (d ∷ ds) all have =
    from_dispatches law payload board ds (with_dispatch all (packed_contents payload (ops_on board d)))
    (next_has all (packed_contents payload (ops_on board d)) have (λ body within. law (ops_on board d) payload body within))

pub each_body : BodiesHavePieces → (payload board : ℕ) (steps : List Step) (body : ℕ)
    → body < length (all_dispatches (plan payload board steps)).bodies
    → HasPiece body (all_dispatches (plan payload board steps)).pieces
each_body law payload board steps =
    from_dispatches law payload board (dispatches steps) no_bodies (λ body within. absurd (omega arith))
