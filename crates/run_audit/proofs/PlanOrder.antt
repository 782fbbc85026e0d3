-- The bodies of pieces do not fall: neither within an operation of a plan, nor from one to a later one.
use Rattle.std.proofs.Common.{◌≡◌, ℕ, zero, suc, ◌+◌, ◌<◌, ◌≤◌, length, map, take, drop, List, [], ◌∷◌, ◌++◌, arith, subst}
use Rattle.std.proofs.Common.{sym, length-append}
use Rattle.std.proofs.lemmas.List.{length-map}
use Rattle.std.specs.List.{AllByRecursion, fold, range_with_len, slice_get}
use Rattle.std.specs.Option.{unwrap_or}
use Rattle.ipb_base.proofs.AllLemmas.{AllByRecursion-append, all-map}
use Rattle.mtu_packer.specs.declared.packed.Piece.{Piece}
use Rattle.mtu_packer.specs.Packing.{body_words, parts_of}
use Rattle.mtu_packer.specs.Cutting.{piece_count}
use Rattle.mtu_packer.specs.Packed.{packed_contents, places_in, places_from, deal}
use Rattle.script_steps.specs.declared.operation.RegOp.{RegOp}
use Rattle.script_steps.specs.declared.operation.Step.{Step}
use Rattle.script_plans.specs.declared.greeting.Greeting.{Greeting}
use Rattle.script_plans.specs.declared.greeting.Greeting.TheVariants.{Live, Silent, Down}
use Rattle.script_plans.specs.declared.planned.PieceAt.{PieceAt}
use Rattle.script_plans.specs.Claims.{Rises, HaveBodies}
use Rattle.script_plans.specs.Plan.{ClientBodies, no_bodies, piece_behind, ops_on, dispatches, planned_on, with_dispatch}

-- ---- lists that rise

-- each item of one list stands so to each of another
abbrev pub Each : {T : Type 0} → (T → T → Type 0) → List T → List T → Type 0
Each R xs ys = AllByRecursion (λ x. AllByRecursion (R x) ys) xs

module _ {T : Type 0} where
  all_take : (P : T → Type 0) (n : ℕ) (xs : List T) → AllByRecursion P xs → AllByRecursion P (take n xs)
  all_take P zero xs all = tt
  all_take P (suc n) [] all = tt
  all_take P (suc n) (x ∷ xs) all = (all.0, all_take P n xs all.1)

  all_drop : (P : T → Type 0) (n : ℕ) (xs : List T) → AllByRecursion P xs → AllByRecursion P (drop n xs)
  all_drop P zero xs all = all
  all_drop P (suc n) [] all = tt
  all_drop P (suc n) (x ∷ xs) all = all_drop P n xs all.1

module _ {T : Type 0} (R : T → T → Type 0) where
  rises_take : (n : ℕ) (xs : List T) → Rises R xs → Rises R (take n xs)
  rises_take zero xs rises = tt
  rises_take (suc n) [] rises = tt
  rises_take (suc n) (x ∷ xs) rises = (all_take (R x) n xs rises.0, rises_take n xs rises.1)

  rises_drop : (n : ℕ) (xs : List T) → Rises R xs → Rises R (drop n xs)
  rises_drop zero xs rises = rises
  rises_drop (suc n) [] rises = tt
  rises_drop (suc n) (x ∷ xs) rises = rises_drop n xs rises.1

  pub rises_append : (xs ys : List T) → Rises R xs → Rises R ys → Each R xs ys → Rises R (xs ++ ys)
  rises_append [] ys rises more before = more
  rises_append (x ∷ xs) ys rises more before = (
    AllByRecursion-append (R x) xs ys rises.0 before.0,
    rises_append xs ys rises.1 more before.1,
  )

  pub each_nil : (xs : List T) → Each R xs []
  each_nil [] = tt
  each_nil (x ∷ xs) = (tt, each_nil xs)

  pub each_append : (xs ys zs : List T) → Each R xs ys → Each R xs zs → Each R xs (ys ++ zs)
  each_append [] ys zs one other = tt
  each_append (x ∷ xs) ys zs one other =
      (AllByRecursion-append (R x) ys zs one.0 other.0, each_append xs ys zs one.1 other.1)

  each_take : (front : List T) (n : ℕ) (rest : List T) → Each R front rest → Each R front (take n rest)
  each_take [] n rest each = tt
  each_take (x ∷ front) n rest each = (all_take (R x) n rest each.0, each_take front n rest each.1)

  each_drop : (front : List T) (n : ℕ) (rest : List T) → Each R front rest → Each R front (drop n rest)
  each_drop [] n rest each = tt
  each_drop (x ∷ front) n rest each = (all_drop (R x) n rest each.0, each_drop front n rest each.1)

  each_dealt : (front : List T) (counts : List ℕ) (rest : List T) → Each R front rest
      → AllByRecursion (Each R front) (deal counts rest)
  each_dealt front [] rest each = tt
  each_dealt front (n ∷ counts) rest each =
      (each_take front n rest each, each_dealt front counts (drop n rest) (each_drop front n rest each))

  split : (n : ℕ) (xs : List T) → Rises R xs → Each R (take n xs) (drop n xs)
  split zero xs rises = tt
  split (suc n) [] rises = tt
  split (suc n) (x ∷ xs) rises = (all_drop (R x) n xs rises.0, split n xs rises.1)

  dealt_rise : (counts : List ℕ) (xs : List T) → Rises R xs → Rises (Each R) (deal counts xs)
  dealt_rise [] xs rises = tt
  dealt_rise (n ∷ counts) xs rises = (
    each_dealt (take n xs) counts (drop n xs) (split n xs rises),
    dealt_rise counts (drop n xs) (rises_drop n xs rises),
  )

  each_dealt_rises : (counts : List ℕ) (xs : List T) → Rises R xs → AllByRecursion (Rises R) (deal counts xs)
  each_dealt_rises [] xs rises = tt
  each_dealt_rises (n ∷ counts) xs rises =
      (rises_take n xs rises, each_dealt_rises counts (drop n xs) (rises_drop n xs rises))

  each_or_none : (xs : List T) (yss : List (List T)) (j : ℕ) → AllByRecursion (Each R xs) yss
      → Each R xs (unwrap_or (slice_get yss j) [])
  each_or_none xs [] j all = each_nil xs
  each_or_none xs (ys ∷ yss) zero all = all.0
  each_or_none xs (ys ∷ yss) (suc j) all = each_or_none xs yss j all.1

  -- the lists at two positions of those that rise
  pub each_at : (xss : List (List T)) (i j : ℕ) → i < j → Rises (Each R) xss
      → Each R (unwrap_or (slice_get xss i) []) (unwrap_or (slice_get xss j) [])
  each_at [] i j before rises = tt
  each_at (xs ∷ xss) zero zero before rises = absurd (omega arith)
  each_at (xs ∷ xss) zero (suc j) before rises = each_or_none xs xss j rises.0
  each_at (xs ∷ xss) (suc i) zero before rises = absurd (omega arith)
  each_at (xs ∷ xss) (suc i) (suc j) before rises = each_at xss i j (omega arith) rises.1

  pub rises_at : (xss : List (List T)) (i : ℕ) → AllByRecursion (Rises R) xss
      → Rises R (unwrap_or (slice_get xss i) [])
  rises_at [] i all = tt
  rises_at (xs ∷ xss) zero all = all.0
  rises_at (xs ∷ xss) (suc i) all = rises_at xss i all.1

-- ---- the places of a packing

abbrev pub PieceUpTo : Piece → Piece → Type 0
PieceUpTo p q = p.body ≤ q.body

-- The body of a piece is not above that of another.
abbrev pub IsUpTo : PieceAt → PieceAt → Type 0
IsUpTo p q = p.body ≤ q.body

abbrev pub StandFrom : ℕ → List Piece → Type 0
StandFrom low ps = AllByRecursion (λ (p : Piece). low ≤ p.body) ps

abbrev pub StandBelow : ℕ → List Piece → Type 0
StandBelow most ps = AllByRecursion (λ (p : Piece). p.body < most) ps

from_body : (low body first n : ℕ) → low ≤ body
    → StandFrom low (map (λ index. record { body = body; index = index }) (range_with_len first n))
from_body low body first zero above = tt
from_body low body first (suc n) above = (above, from_body low body (first + 1) n above)

from_places : (low body : ℕ) (parts : _) → low ≤ body → StandFrom low (places_from body parts)
from_places low body [] above = tt
from_places low body (part ∷ parts) above =
    AllByRecursion-append (λ (p : Piece). low ≤ p.body) (places_in body (length part)) (places_from (body + 1) parts)
    (from_body low body 0 (length part) above) (from_places low (body + 1) parts (omega arith))

below_body : (most body first n : ℕ) → body < most
    → StandBelow most (map (λ index. record { body = body; index = index }) (range_with_len first n))
below_body most body first zero below = tt
below_body most body first (suc n) below = (below, below_body most body (first + 1) n below)

below_places : (most body : ℕ) (parts : _) → body + length parts ≤ most
    → StandBelow most (places_from body parts)
below_places most body [] below = tt
below_places most body (part ∷ parts) below =
    AllByRecursion-append (λ (p : Piece). p.body < most) (places_in body (length part)) (places_from (body + 1) parts)
    (below_body most body 0 (length part) (omega arith)) (below_places most (body + 1) parts (omega arith))

rises_body : (body first n : ℕ) → Rises PieceUpTo
    (map (λ index. record { body = body; index = index }) (range_with_len first n))
rises_body body first zero = tt
rises_body body first (suc n) = (from_body body body (first + 1) n (omega arith), rises_body body (first + 1) n)

each_from : (body first n : ℕ) (ps : List Piece) → StandFrom body ps
    → Each PieceUpTo (map (λ index. record { body = body; index = index }) (range_with_len first n)) ps
each_from body first zero ps from = tt
each_from body first (suc n) ps from = (from, each_from body (first + 1) n ps from)

places_rise : (body : ℕ) (parts : _) → Rises PieceUpTo (places_from body parts)
places_rise body [] = tt
places_rise body (part ∷ parts) =
    rises_append PieceUpTo (places_in body (length part)) (places_from (body + 1) parts)
    (rises_body body 0 (length part)) (places_rise (body + 1) parts)
    (each_from body 0 (length part) (places_from (body + 1) parts)
    (from_places body (body + 1) parts (omega arith)))

-- ---- one dispatch

dealt_below : (most : ℕ) (counts : List ℕ) (xs : List Piece) → StandBelow most xs
    → AllByRecursion (StandBelow most) (deal counts xs)
dealt_below most [] xs below = tt
dealt_below most (n ∷ counts) xs below = (
  all_take (λ (p : Piece). p.body < most) n xs below,
  dealt_below most counts (drop n xs) (all_drop (λ (p : Piece). p.body < most) n xs below),
)

module _ (payload : ℕ) (ops : _) where
  packed_each : Rises (Each PieceUpTo) (packed_contents payload ops).pieces
  packed_each = dealt_rise PieceUpTo (map (piece_count payload) ops) (places_from 0 (parts_of payload ops))
      (places_rise 0 (parts_of payload ops))

  packed_rises : AllByRecursion (Rises PieceUpTo) (packed_contents payload ops).pieces
  packed_rises = each_dealt_rises PieceUpTo (map (piece_count payload) ops) (places_from 0 (parts_of payload ops))
      (places_rise 0 (parts_of payload ops))

  packed_below : AllByRecursion (StandBelow (length (packed_contents payload ops).bodies)) (packed_contents payload ops).pieces
  packed_below =
      dealt_below (length (packed_contents payload ops).bodies) (map (piece_count payload) ops)
      (places_from 0 (parts_of payload ops))
      (below_places (length (packed_contents payload ops).bodies) 0 (parts_of payload ops)
      (omega (arith, length-map (parts_of payload ops) body_words)))

-- ---- pieces that are moved behind other bodies

module _ (first : ℕ) where
  moved_up_to : (p : Piece) (qs : List Piece) → AllByRecursion (PieceUpTo p) qs
      → AllByRecursion (IsUpTo (piece_behind first p)) (map (piece_behind first) qs)
  moved_up_to p [] all = tt
  moved_up_to p (q ∷ qs) all = (omega (arith, all.0), moved_up_to p qs all.1)

  moved_each : (ps qs : List Piece) → Each PieceUpTo ps qs → Each IsUpTo (map (piece_behind first) ps) (map (piece_behind first) qs)
  moved_each [] qs each = tt
  moved_each (p ∷ ps) qs each = (moved_up_to p qs each.0, moved_each ps qs each.1)

  moved_all_each : (ps : List Piece) (pieces : List (List Piece)) → AllByRecursion (Each PieceUpTo ps) pieces
      → AllByRecursion (Each IsUpTo (map (piece_behind first) ps)) (map (λ qs. map (piece_behind first) qs) pieces)
  moved_all_each ps [] all = tt
  moved_all_each ps (qs ∷ pieces) all = (moved_each ps qs all.0, moved_all_each ps pieces all.1)

  moved_rise : (pieces : List (List Piece)) → Rises (Each PieceUpTo) pieces
      → Rises (Each IsUpTo) (map (λ ps. map (piece_behind first) ps) pieces)
  moved_rise [] rises = tt
  moved_rise (ps ∷ pieces) rises = (moved_all_each ps pieces rises.0, moved_rise pieces rises.1)

  moved_rises : (ps : List Piece) → Rises PieceUpTo ps → Rises IsUpTo (map (piece_behind first) ps)
  moved_rises [] rises = tt
  moved_rises (p ∷ ps) rises = (moved_up_to p ps rises.0, moved_rises ps rises.1)

  moved_all_rise : (pieces : List (List Piece)) → AllByRecursion (Rises PieceUpTo) pieces
      → AllByRecursion (Rises IsUpTo) (map (λ ps. map (piece_behind first) ps) pieces)
  moved_all_rise [] all = tt
  moved_all_rise (ps ∷ pieces) all = (moved_rises ps all.0, moved_all_rise pieces all.1)

  moved_below : (most : ℕ) (ps : List Piece) → StandBelow most ps
      → AllByRecursion (λ (p : PieceAt). p.body < first + most) (map (piece_behind first) ps)
  moved_below most [] all = tt
  moved_below most (p ∷ ps) all = (omega (arith, all.0), moved_below most ps all.1)

  moved_all_below : (most : ℕ) (pieces : List (List Piece)) → AllByRecursion (StandBelow most) pieces
      → AllByRecursion (AllByRecursion (λ (p : PieceAt). p.body < first + most)) (map (λ ps. map (piece_behind first) ps) pieces)
  moved_all_below most [] all = tt
  moved_all_below most (ps ∷ pieces) all = (moved_below most ps all.0, moved_all_below most pieces all.1)

  below_moved : (p : PieceAt) (qs : List Piece) → p.body < first → AllByRecursion (IsUpTo p) (map (piece_behind first) qs)
  below_moved p [] below = tt
  below_moved p (q ∷ qs) below = (omega arith, below_moved p qs below)

  each_behind : (ps : List PieceAt) (qs : List Piece) → AllByRecursion (λ (p : PieceAt). p.body < first) ps
      → Each IsUpTo ps (map (piece_behind first) qs)
  each_behind [] qs all = tt
  each_behind (p ∷ ps) qs all = (below_moved p qs all.0, each_behind ps qs all.1)

  all_behind : (ps : List PieceAt) (pieces : List (List Piece)) → AllByRecursion (λ (p : PieceAt). p.body < first) ps
      → AllByRecursion (Each IsUpTo ps) (map (λ qs. map (piece_behind first) qs) pieces)
  all_behind ps [] all = tt
  all_behind ps (qs ∷ pieces) all = (each_behind ps qs all, all_behind ps pieces all)

  each_all_behind : (all : List (List PieceAt)) (pieces : List (List Piece))
      → AllByRecursion (AllByRecursion (λ (p : PieceAt). p.body < first)) all
      → Each (Each IsUpTo) all (map (λ qs. map (piece_behind first) qs) pieces)
  each_all_behind [] pieces below = tt
  each_all_behind (ps ∷ all) pieces below = (all_behind ps pieces below.0, each_all_behind all pieces below.1)

-- ---- through all dispatches

-- the bodies of the pieces of a plan do not fall, and are there
pub record AreInOrder (all : ClientBodies) : Type 0 where
  pub each : Rises (Each IsUpTo) all.pieces
  pub within : AllByRecursion (Rises IsUpTo) all.pieces
  pub bodies : HaveBodies all

still_below : (low high : ℕ) (pieces : List (List PieceAt)) → low ≤ high
    → AllByRecursion (AllByRecursion (λ (p : PieceAt). p.body < low)) pieces
    → AllByRecursion (AllByRecursion (λ (p : PieceAt). p.body < high)) pieces
still_below low high pieces more all =
    all-map (AllByRecursion (λ (p : PieceAt). p.body < low)) (AllByRecursion (λ (p : PieceAt). p.body < high)) pieces
    (λ ps. all-map (λ (p : PieceAt). p.body < low) (λ (p : PieceAt). p.body < high) ps (λ p under. omega arith)) all

next_dispatch : (payload : ℕ) (ops : _) (all : ClientBodies) → AreInOrder all
    → AreInOrder (with_dispatch all (packed_contents payload ops))
next_dispatch payload ops all so_far =
    let first = length all.bodies in
    let more = (packed_contents payload ops).bodies in
    let long : length (all.bodies ++ more) ≡ first + length more = length-append all.bodies more in
    record {
      each = rises_append (Each IsUpTo) all.pieces _ so_far.each
          (moved_rise first (packed_contents payload ops).pieces (packed_each payload ops))
          (each_all_behind first all.pieces (packed_contents payload ops).pieces so_far.bodies);
      within = AllByRecursion-append (Rises IsUpTo) all.pieces _ so_far.within
          (moved_all_rise first (packed_contents payload ops).pieces (packed_rises payload ops));
      bodies = AllByRecursion-append (AllByRecursion (λ (p : PieceAt). p.body < length (all.bodies ++ more))) all.pieces _
          (still_below first (length (all.bodies ++ more)) all.pieces (omega arith) so_far.bodies)
          (subst (λ n. AllByRecursion (AllByRecursion (λ (p : PieceAt). p.body < n))
          (map (λ ps. map (piece_behind first) ps) (packed_contents payload ops).pieces)) (sym long)
          (moved_all_below first (length more) (packed_contents payload ops).pieces (packed_below payload ops)));
    }

from_dispatches : (payload board : ℕ) (ds : List (List RegOp)) (all : ClientBodies) → AreInOrder all
    → AreInOrder (fold with_dispatch all (map (λ dispatch. packed_contents payload (ops_on board dispatch)) ds))
from_dispatches payload board [] all so_far = so_far
from_dispatches payload board (d ∷ ds) all so_far =
    from_dispatches payload board ds (with_dispatch all (packed_contents payload (ops_on board d)))
    (next_dispatch payload (ops_on board d) all so_far)

nothing_in_order : AreInOrder no_bodies
nothing_in_order = record { each = tt; within = tt; bodies = tt }

-- The pieces that a client asks of a board.
pub plans_in_order : (board : ℕ) (told : Greeting) (steps : List Step) → AreInOrder (planned_on board told steps)
plans_in_order board (Live payload) steps = from_dispatches payload board (dispatches steps) no_bodies nothing_in_order
plans_in_order board Silent steps = nothing_in_order
plans_in_order board Down steps = nothing_in_order
