-- Every operation has its pieces, and each piece its body.
use Rattle.std.proofs.Common.{◌≡◌, ℕ, suc, ◌+◌, ◌<◌, ◌==◌, cond, Bool, length, take, drop, List, [], ◌∷◌, ◌++◌, sym, ap}
use Rattle.std.proofs.Common.{◌∙◌, inl, inr, arith, length-append, zero, ◌≤◌, map, refl, subst}
use Rattle.std.specs.List.{count_by, AllByRecursion, flat_map, fold, range_with_len}
use Rattle.std.proofs.lemmas.List.Sums.{sum_by-append}
use Rattle.script_steps.specs.declared.operation.RegOp.{RegOp}
use Rattle.script_steps.specs.declared.operation.Step.{Step}
use Rattle.script_steps.specs.declared.operation.Step.TheVariants.{Do, Denied, Dispatch}
use Rattle.script_plans.specs.Plan.{operations, count_on, ClientBodies, no_bodies, piece_behind, into_next_dispatch, dispatches, ops_on}
use Rattle.script_plans.specs.Plan.{plan, with_dispatch, all_dispatches}
use Rattle.std.proofs.lemmas.Bool.{cases_Bool}
use Rattle.std.proofs.lemmas.List.{length-map}
use Rattle.ipb_base.proofs.AllLemmas.{AllByRecursion-append, all-map}
use Rattle.transaction_codec.specs.declared.request.Op.{Op}
use Rattle.mtu_packer.specs.declared.packed.Piece.{Piece}
use Rattle.mtu_packer.specs.Cutting.{piece_count}
use Rattle.mtu_packer.specs.Packing.{parts_of, body_words}
use Rattle.mtu_packer.specs.Packed.{Contents, packed_contents, places_in, places_from, deal}
use Rattle.script_plans.specs.declared.planned.PieceAt.{PieceAt}
use Rattle.script_plans.specs.Claims.{HaveBodies}
use Rattle.script_plans.proofs.PlanLemmas.{one_and_more}

-- ---- counting

-- what is counted of two lists
pub count_by-append : {A : Type 0} (p : A → Bool) (xs ys : List A)
    → count_by p (xs ++ ys) ≡ count_by p xs + count_by p ys
count_by-append p xs ys = sum_by-append (λ x. cond (p x) 1 0) xs ys

-- ---- pieces of each operation

length-deal : {T : Type 0} (counts : List ℕ) (xs : List T) → length (deal counts xs) ≡ length counts
length-deal [] xs = refl
length-deal (n ∷ counts) xs = ap suc (length-deal counts (drop n xs))

packed_length : (payload : ℕ) (ops : List Op) → length (packed_contents payload ops).pieces ≡ length ops
packed_length payload ops =
    length-deal (map (piece_count payload) ops) (places_from 0 (parts_of payload ops))
    ∙ length-map ops (piece_count payload)

length_from : (payload board : ℕ) (ds : List (List RegOp)) (all : ClientBodies)
    → length (fold with_dispatch all (map (λ dispatch. packed_contents payload (ops_on board dispatch)) ds)).pieces
    ≡ length all.pieces + length (flat_map (ops_on board) ds)
length_from payload board [] all = omega arith
length_from payload board (d ∷ ds) all =
    let next = with_dispatch all (packed_contents payload (ops_on board d)) in
    let more : length (fold with_dispatch next (map (λ dispatch. packed_contents payload (ops_on board dispatch)) ds)).pieces
    ≡ length next.pieces + length (flat_map (ops_on board) ds) = length_from payload board ds next in
    let here : length next.pieces ≡ length all.pieces + length (ops_on board d) =
    length-append all.pieces (map (λ pieces. map (piece_behind (length all.bodies)) pieces)
    (packed_contents payload (ops_on board d)).pieces)
    ∙ ap (λ n. length all.pieces + n) (length-map (packed_contents payload (ops_on board d)).pieces
    (λ pieces. map (piece_behind (length all.bodies)) pieces)
    ∙ packed_length payload (ops_on board d)) in
    omega (arith, length-append (ops_on board d) (flat_map (ops_on board) ds))

counted_one : (board : ℕ) (op : RegOp) → length (ops_on board (op ∷ [])) ≡ count_on board (op ∷ [])
counted_one board op =
    elim (cases_Bool (op.board == board)) [
      | inl here ↦ rw here
      | inr away ↦ rw away
    ]

begun_length : (board : ℕ) (op : RegOp) (ds : List (List RegOp))
    → length (flat_map (ops_on board) (into_next_dispatch op ds))
    ≡ length (ops_on board (op ∷ [])) + length (flat_map (ops_on board) ds)
begun_length board op [] = length-append (ops_on board (op ∷ [])) []
begun_length board op (d ∷ later) =
    let first : length (ops_on board (op ∷ d)) ≡ length (ops_on board (op ∷ [])) + length (ops_on board d) =
    ap length (one_and_more board op d) ∙ length-append (ops_on board (op ∷ [])) (ops_on board d) in
    omega (
      arith,
      length-append (ops_on board (op ∷ d)) (flat_map (ops_on board) later),
      length-append (ops_on board d) (flat_map (ops_on board) later),
    )

all_counted : (board : ℕ) (steps : List Step) → length (flat_map (ops_on board) (dispatches steps))
    ≡ count_on board (operations steps)
all_counted board [] = refl
all_counted board (Do op ∷ steps) =
    begun_length board op (dispatches steps)
    ∙ (ap (λ n. n + length (flat_map (ops_on board) (dispatches steps))) (counted_one board op)
    ∙ (ap (λ n. count_on board (op ∷ []) + n) (all_counted board steps)
    ∙ sym (count_by-append (λ (o : RegOp). o.board == board) (op ∷ []) (operations steps))))
all_counted board (Denied rule op ∷ steps) = all_counted board steps
all_counted board (Dispatch ∷ steps) = all_counted board steps

pub each_has_pieces : (payload board : ℕ) (steps : List Step)
    → length (all_dispatches (plan payload board steps)).pieces ≡ count_on board (operations steps)
each_has_pieces payload board steps =
    let all : length (all_dispatches (plan payload board steps)).pieces
    ≡ 0 + length (flat_map (ops_on board) (dispatches steps)) =
    length_from payload board (dispatches steps) no_bodies in
    omega (arith, all_counted board steps)

-- ---- bodies of each piece

module _ {T : Type 0} (P : T → Type 0) where
  take_all : (n : ℕ) (xs : List T) → AllByRecursion P xs → AllByRecursion P (take n xs)
  take_all zero xs all = tt
  take_all (suc n) [] all = tt
  take_all (suc n) (x ∷ xs) all = (all.0, take_all n xs all.1)

  drop_all : (n : ℕ) (xs : List T) → AllByRecursion P xs → AllByRecursion P (drop n xs)
  drop_all zero xs all = all
  drop_all (suc n) [] all = tt
  drop_all (suc n) (x ∷ xs) all = drop_all n xs all.1

  dealt_all : (counts : List ℕ) (xs : List T) → AllByRecursion P xs → AllByRecursion (AllByRecursion P) (deal counts xs)
  dealt_all [] xs all = tt
  dealt_all (n ∷ counts) xs all = (take_all n xs all, dealt_all counts (drop n xs) (drop_all n xs all))

abbrev pub IsBelow : ℕ → Piece → Type 0
IsBelow most piece = piece.body < most

one_body : (most body first n : ℕ) → body < most
    → AllByRecursion (IsBelow most) (map (λ index. record { body = body; index = index }) (range_with_len first n))
one_body most body first zero below = tt
one_body most body first (suc n) below = (below, one_body most body (first + 1) n below)

places_below : (most body : ℕ) (parts : List (List Op)) → body + length parts ≤ most
    → AllByRecursion (IsBelow most) (places_from body parts)
places_below most body [] below = tt
places_below most body (part ∷ parts) below =
    AllByRecursion-append (IsBelow most) (places_in body (length part)) (places_from (body + 1) parts)
    (one_body most body 0 (length part) (omega arith)) (places_below most (body + 1) parts (omega arith))

packed_below : (payload : ℕ) (ops : List Op)
    → AllByRecursion (AllByRecursion (IsBelow (length (packed_contents payload ops).bodies))) (packed_contents payload ops).pieces
packed_below payload ops =
    dealt_all (IsBelow (length (packed_contents payload ops).bodies)) (map (piece_count payload) ops)
    (places_from 0 (parts_of payload ops))
    (places_below (length (packed_contents payload ops).bodies) 0 (parts_of payload ops)
    (omega (arith, length-map (parts_of payload ops) body_words)))

abbrev pub IsUnder : ℕ → PieceAt → Type 0
IsUnder most piece = piece.body < most

moved_under : (first most : ℕ) (ps : List Piece) → AllByRecursion (IsBelow most) ps
    → AllByRecursion (IsUnder (first + most)) (map (piece_behind first) ps)
moved_under first most [] all = tt
moved_under first most (p ∷ ps) all = (omega (arith, all.0), moved_under first most ps all.1)

each_under : (first most : ℕ) (pieces : List (List Piece)) → AllByRecursion (AllByRecursion (IsBelow most)) pieces
    → AllByRecursion (AllByRecursion (IsUnder (first + most))) (map (λ pieces. map (piece_behind first) pieces) pieces)
each_under first most [] all = tt
each_under first most (ps ∷ pieces) all = (moved_under first most ps all.0, each_under first most pieces all.1)

still_under : (low high : ℕ) (pieces : List (List PieceAt)) → low ≤ high
    → AllByRecursion (AllByRecursion (IsUnder low)) pieces
    → AllByRecursion (AllByRecursion (IsUnder high)) pieces
still_under low high pieces more all =
    all-map (AllByRecursion (IsUnder low)) (AllByRecursion (IsUnder high)) pieces
    (λ ps. all-map (IsUnder low) (IsUnder high) ps (λ p under. omega arith)) all

next_under : (all : ClientBodies) (c : Contents) → HaveBodies all
    → AllByRecursion (AllByRecursion (IsBelow (length c.bodies))) c.pieces
    → HaveBodies (with_dispatch all c)
next_under all c have more =
    let long : length (all.bodies ++ c.bodies) ≡ length all.bodies + length c.bodies = length-append all.bodies c.bodies
    in
    AllByRecursion-append (AllByRecursion (IsUnder (length (all.bodies ++ c.bodies)))) all.pieces _
    (still_under (length all.bodies) (length (all.bodies ++ c.bodies)) all.pieces (omega arith) have)
    (subst (λ n. AllByRecursion (AllByRecursion (IsUnder n))
    (map (λ pieces. map (piece_behind (length all.bodies)) pieces) c.pieces)) (sym long)
    (each_under (length all.bodies) (length c.bodies) c.pieces more))

under_from : (payload board : ℕ) (ds : List (List RegOp)) (all : ClientBodies) → HaveBodies all
    → HaveBodies (fold with_dispatch all (map (λ dispatch. packed_contents payload (ops_on board dispatch)) ds))
under_from payload board [] all have = have
under_from payload board (d ∷ ds) all have =
    under_from payload board ds (with_dispatch all (packed_contents payload (ops_on board d)))
    (next_under all (packed_contents payload (ops_on board d)) have (packed_below payload (ops_on board d)))

pub each_has_its_body : (payload board : ℕ) (steps : List Step) → HaveBodies (all_dispatches (plan payload board steps))
each_has_its_body payload board steps = under_from payload board (dispatches steps) no_bodies tt
