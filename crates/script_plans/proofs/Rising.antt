-- The pieces of an operation stand one behind the other.
use Rattle.std.proofs.Common.{◌≡◌, ◌⊎◌, ℕ, zero, suc, ◌+◌, ◌<◌, length, map, take, drop, List, [], ◌∷◌, ◌++◌, refl, ap}
use Rattle.std.proofs.Common.{inl, inr, arith}
use Rattle.std.specs.List.{AllByRecursion, fold, range_with_len}
use Rattle.ipb_base.proofs.AllLemmas.{AllByRecursion-append}
use Rattle.transaction_codec.specs.declared.request.Op.{Op}
use Rattle.mtu_packer.specs.declared.packed.Piece.{Piece}
use Rattle.mtu_packer.specs.Packing.{parts_of}
use Rattle.mtu_packer.specs.Cutting.{piece_count}
use Rattle.mtu_packer.specs.Packed.{packed_contents, places_in, places_from, deal}
use Rattle.script_steps.specs.declared.operation.RegOp.{RegOp}
use Rattle.script_steps.specs.declared.operation.Step.{Step}
use Rattle.script_plans.specs.Plan.{ClientBodies, no_bodies, piece_behind, ops_on, dispatches, plan, with_dispatch}
use Rattle.script_plans.specs.Plan.{all_dispatches}
use Rattle.script_plans.specs.Claims.{IsBefore, Rises}

-- ---- lists that rise

abbrev pub PieceBefore : Piece → Piece → Type 0
PieceBefore p q = (p.body < q.body) ⊎ ((p.body ≡ q.body) × (p.index < q.index))

module _ {T : Type 0} (R : T → T → Type 0) where
  take_all : (P : T → Type 0) (n : ℕ) (xs : List T) → AllByRecursion P xs → AllByRecursion P (take n xs)
  take_all P zero xs all = tt
  take_all P (suc n) [] all = tt
  take_all P (suc n) (x ∷ xs) all = (all.0, take_all P n xs all.1)

  rises_take : (n : ℕ) (xs : List T) → Rises R xs → Rises R (take n xs)
  rises_take zero xs rises = tt
  rises_take (suc n) [] rises = tt
  rises_take (suc n) (x ∷ xs) rises = (take_all (R x) n xs rises.0, rises_take n xs rises.1)

  rises_drop : (n : ℕ) (xs : List T) → Rises R xs → Rises R (drop n xs)
  rises_drop zero xs rises = rises
  rises_drop (suc n) [] rises = tt
  rises_drop (suc n) (x ∷ xs) rises = rises_drop n xs rises.1

  rises_append : (xs ys : List T) → Rises R xs → Rises R ys → AllByRecursion (λ x. AllByRecursion (R x) ys) xs
      → Rises R (xs ++ ys)
  rises_append [] ys rises more before = more
  rises_append (x ∷ xs) ys rises more before = (
    AllByRecursion-append (R x) xs ys rises.0 before.0,
    rises_append xs ys rises.1 more before.1,
  )

  dealt_rise : (counts : List ℕ) (xs : List T) → Rises R xs → AllByRecursion (Rises R) (deal counts xs)
  dealt_rise [] xs rises = tt
  dealt_rise (n ∷ counts) xs rises = (rises_take n xs rises, dealt_rise counts (drop n xs) (rises_drop n xs rises))

-- ---- the places of a packing

later_in : (body low first n : ℕ) → low < first
    → AllByRecursion (PieceBefore (record { body = body; index = low }))
    (map (λ index. record { body = body; index = index }) (range_with_len first n))
later_in body low first zero before = tt
later_in body low first (suc n) before = (inr (refl, before), later_in body low (first + 1) n (omega arith))

in_one_body : (body first n : ℕ) → Rises PieceBefore
    (map (λ index. record { body = body; index = index }) (range_with_len first n))
in_one_body body first zero = tt
in_one_body body first (suc n) = (later_in body first (first + 1) n (omega arith), in_one_body body (first + 1) n)

later_place : (p : Piece) (body first n : ℕ) → p.body < body
    → AllByRecursion (PieceBefore p) (map (λ index. record { body = body; index = index }) (range_with_len first n))
later_place p body first zero before = tt
later_place p body first (suc n) before = (inl before, later_place p body (first + 1) n before)

later_bodies : (p : Piece) (body : ℕ) (parts : List (List Op)) → p.body < body
    → AllByRecursion (PieceBefore p) (places_from body parts)
later_bodies p body [] before = tt
later_bodies p body (part ∷ parts) before =
    AllByRecursion-append (PieceBefore p) (places_in body (length part)) (places_from (body + 1) parts)
    (later_place p body 0 (length part) before) (later_bodies p (body + 1) parts (omega arith))

all_later : (body first n : ℕ) (parts : List (List Op))
    → AllByRecursion (λ p. AllByRecursion (PieceBefore p) (places_from (body + 1) parts))
    (map (λ index. record { body = body; index = index }) (range_with_len first n))
all_later body first zero parts = tt
all_later body first (suc n) parts = (
  later_bodies (record { body = body; index = first }) (body + 1) parts (omega arith),
  all_later body (first + 1) n parts,
)

places_rise : (body : ℕ) (parts : List (List Op)) → Rises PieceBefore (places_from body parts)
places_rise body [] = tt
places_rise body (part ∷ parts) =
    rises_append PieceBefore (places_in body (length part)) (places_from (body + 1) parts)
    (in_one_body body 0 (length part))
    (places_rise (body + 1) parts) (all_later body 0 (length part) parts)

packed_rise : (payload : ℕ) (ops : List Op) → AllByRecursion (Rises PieceBefore) (packed_contents payload ops).pieces
packed_rise payload ops = dealt_rise PieceBefore (map (piece_count payload) ops) (places_from 0 (parts_of payload ops))
    (places_rise 0 (parts_of payload ops))

-- ---- through all dispatches

moved_before : (first : ℕ) (p q : Piece) → PieceBefore p q → IsBefore (piece_behind first p) (piece_behind first q)
moved_before first p q (inl before) = inl (omega arith)
moved_before first p q (inr (same, before)) = inr (ap (λ body. first + body) same, before)

moved_all : (first : ℕ) (p : Piece) (ps : List Piece) → AllByRecursion (PieceBefore p) ps
    → AllByRecursion (IsBefore (piece_behind first p)) (map (piece_behind first) ps)
moved_all first p [] all = tt
moved_all first p (q ∷ qs) all = (moved_before first p q all.0, moved_all first p qs all.1)

moved_rise : (first : ℕ) (ps : List Piece) → Rises PieceBefore ps → Rises IsBefore (map (piece_behind first) ps)
moved_rise first [] rises = tt
moved_rise first (p ∷ ps) rises = (moved_all first p ps rises.0, moved_rise first ps rises.1)

each_moved : (first : ℕ) (pieces : List (List Piece)) → AllByRecursion (Rises PieceBefore) pieces
    → AllByRecursion (Rises IsBefore) (map (λ pieces. map (piece_behind first) pieces) pieces)
each_moved first [] all = tt
each_moved first (ps ∷ pieces) all = (moved_rise first ps all.0, each_moved first pieces all.1)

from_dispatches : (payload board : ℕ) (ops : List (List RegOp)) (all : ClientBodies)
    → AllByRecursion (Rises IsBefore) all.pieces
    → AllByRecursion (Rises IsBefore) (fold with_dispatch all
    (map (λ dispatch. packed_contents payload (ops_on board dispatch)) ops)).pieces
from_dispatches payload board [] all rise = rise
from_dispatches payload board (dispatch ∷ later) all rise =
    from_dispatches payload board later (with_dispatch all (packed_contents payload (ops_on board dispatch)))
    (AllByRecursion-append (Rises IsBefore) all.pieces _ rise
    (each_moved (length all.bodies) (packed_contents payload (ops_on board dispatch)).pieces
    (packed_rise payload (ops_on board dispatch))))

pub pieces_rise : (payload board : ℕ) (steps : List Step)
    → AllByRecursion (Rises IsBefore) (all_dispatches (plan payload board steps)).pieces
pieces_rise payload board steps = from_dispatches payload board (dispatches steps) no_bodies tt
