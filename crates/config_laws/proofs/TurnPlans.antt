-- The plan of a client whose operations are of one word each: one transaction for each, in order.
use Rattle.std.proofs.Common.{◌≡◌, ℕ, suc, ◌+◌, ◌-◌, ◌*◌, ◌≤◌, ◌==◌, List, [], ◌∷◌, ◌++◌, length, map, take, drop}
use Rattle.std.proofs.Common.{Some, inl, inr, refl, sym, ap, ◌∙◌, subst, arith, append_assoc, append-nil}
use Rattle.std.specs.Prelude.{min}
use Rattle.std.specs.Int.{div_ceil}
use Rattle.std.specs.List.{AllByRecursion, flat_map, fold, range_with_len}
use Rattle.std.proofs.lemmas.Bool.{cases_Bool}
use Rattle.std.proofs.lemmas.Grind.{div_ceil_times, flat_map-append}
use Rattle.std.proofs.lemmas.List.{length-map, map-append}
use Rattle.ipb_base.proofs.AllLemmas.{AllByRecursion-append, back_of_all, front_of_all}
use Rattle.transaction_codec.specs.declared.request.Op.{Op}
use Rattle.transaction_codec.specs.declared.request.Op.TheVariants.{Read, ReadPort, Write, WritePort, RmwBits, RmwSum}
use Rattle.transaction_codec.specs.Request.{AreRequests, op_count}
use Rattle.mtu_packer.specs.declared.packed.Piece.{Piece}
use Rattle.mtu_packer.specs.Cutting.{cut_pieces, part_of, piece, piece_count, piece_limit}
use Rattle.mtu_packer.specs.Packing.{AreReadable, body_requests, body_words}
use Rattle.mtu_packer.specs.Packed.{Contents, IsPacked, packed_contents, pieces_at, places_from}
use Rattle.mtu_packer.proofs.Pieces.{piece_limit-some}
use Rattle.script_steps.specs.declared.operation.RegOp.{RegOp}
use Rattle.script_steps.specs.declared.operation.Step.{Step}
use Rattle.script_plans.specs.declared.greeting.Greeting.TheVariants.{Live}
use Rattle.script_plans.specs.declared.planned.PieceAt.{PieceAt}
use Rattle.script_plans.specs.Plan.{ClientBodies, dispatches, piece_behind, no_bodies, operations, ops_on, planned_on}
use Rattle.script_plans.specs.Plan.{with_dispatch}
use Rattle.script_plans.proofs.PackedDispatches.{AreDispatchesPacked}
use Rattle.script_plans.proofs.PlanLemmas.{one_and_more}
use Rattle.board_history.proofs.Asking.{heads, ops_dispatched}
use Rattle.board_history.proofs.Readiness.{ArePacked}
use Rattle.config_laws.specs.Turns.{AreOfOneWord, IsOfOneWord}
use Rattle.config_laws.proofs.PlanReads.{exactly_one}
use Rattle.config_laws.proofs.TurnParts.{spot, spots, spots_in}

abbrev pub HasOneWord : Op → Type 0
HasOneWord op = op_count op ≡ 1

-- ---- one piece for each operation

of_words : (base offset count : ℕ) (make : ℕ → List ℕ → Op) (words : List ℕ) → length words ≡ 1 → base + offset ≡ base
    → offset ≡ 0 → count ≡ 1 → make (base + offset) (take count (drop offset words)) ≡ make base words
of_words base offset count make [] one same none first = absurd (omega (arith, one))
of_words base offset count make (w ∷ []) one same none first =
    ap (λ n. make n (take count (drop offset (w ∷ [])))) same
    ∙ ap (λ n. make base (take count (drop n (w ∷ [])))) none
    ∙ ap (λ n. make base (take n (w ∷ []))) first
of_words base offset count make (w ∷ (v ∷ words)) one same none first = absurd (omega (arith, one))

part_one : (op : Op) (offset count : ℕ) → HasOneWord op → offset ≡ 0 → count ≡ 1 → part_of op offset count ≡ op
part_one (Read base all) offset count one none first =
    let same : base + offset ≡ base = omega (arith, none) in
    ap (λ n. Read n count) same ∙ ap (λ n. Read base n) (first ∙ sym one)
part_one (ReadPort base all) offset count one none first = ap (λ n. ReadPort base n) (first ∙ sym one)
part_one (Write base words) offset count one none first =
    let same : base + offset ≡ base = omega (arith, none) in
    of_words base offset count (λ n ws. Write n ws) words one same none first
part_one (WritePort base words) offset count one none first =
    let same : base + offset ≡ base = omega (arith, none) in
    of_words base offset count (λ n ws. WritePort base ws) words one same none first
part_one (RmwBits base and_term or_term) offset count one none first = refl
part_one (RmwSum base addend) offset count one none first = refl

word_cut : (payload : ℕ) (op : Op) → 16 ≤ payload → HasOneWord op → cut_pieces payload op ≡ op ∷ []
word_cut payload op low one =
    let limit = piece_limit payload op in
    let some : 1 ≤ limit = piece_limit-some payload op low in
    let bounds = div_ceil_times 1 limit some in
    let count : piece_count payload op ≡ 1 =
    ap (λ n. div_ceil n limit) one ∙ exactly_one limit (div_ceil 1 limit) some bounds.0 bounds.1 in
    let none : 0 * limit ≡ 0 = grind arith in
    let words : min limit (op_count op - 0 * limit) ≡ 1 = omega (arith, none, some, one) in
    ap (λ n. map (piece payload op) (range_with_len 0 n)) count
    ∙ ap (λ (x : Op). x ∷ []) (part_one op (0 * limit) (min limit (op_count op - 0 * limit)) one none words)

whole_cut : (payload : ℕ) (ops : List Op) → 16 ≤ payload → AllByRecursion HasOneWord ops
    → flat_map (cut_pieces payload) ops ≡ ops
whole_cut payload [] low one = refl
whole_cut payload (op ∷ ops) low one =
    ap (λ (xs : List Op). xs ++ flat_map (cut_pieces payload) ops) (word_cut payload op low one.0)
    ∙ ap (λ (xs : List Op). op ∷ xs) (whole_cut payload ops low one.1)

abbrev alone : {T : Type 0} → T → List T
alone x = x ∷ []

-- each operation has one place
singles : (payload : ℕ) (parts : List (List Op)) (ops : List Op) (pieces : List (List Piece)) → 16 ≤ payload
    → AllByRecursion HasOneWord ops → map (pieces_at parts) pieces ≡ map (λ op. map Some (cut_pieces payload op)) ops
    → pieces ≡ map alone (flat_map (λ places. places) pieces)
singles payload parts [] [] low one same = refl
singles payload parts [] (ps ∷ pieces) low one same = absurd cc
singles payload parts (o ∷ ops) [] low one same = absurd cc
singles payload parts (o ∷ ops) (ps ∷ pieces) low one same =
    let both = heads (pieces_at parts ps) (map Some (cut_pieces payload o)) (map (pieces_at parts) pieces)
    (map (λ op. map Some (cut_pieces payload op)) ops) same in
    first ps (both.head ∙ ap (λ (xs : List Op). map Some xs) (word_cut payload o low one.0))
    (singles payload parts ops pieces low one.1 both.tail) where
      first : (places : List Piece) → pieces_at parts places ≡ Some o ∷ []
          → pieces ≡ map alone (flat_map (λ places. places) pieces)
          → places ∷ pieces ≡ map alone (flat_map (λ places. places) (places ∷ pieces))
      first [] is later = absurd cc
      first (p ∷ []) is later = ap (λ (rest : List (List Piece)). (p ∷ []) ∷ rest) later
      first (p ∷ (q ∷ others)) is later = absurd cc

-- ---- places through all dispatches

moved_in : (first body : ℕ) (is : List ℕ)
    → map (piece_behind first) (map (λ index. record { body = body; index = index }) is) ≡ map (spot (first + body)) is
moved_in first body [] = refl
moved_in first body (i ∷ is) = ap (λ (ps : List PieceAt). spot (first + body) i ∷ ps) (moved_in first body is)

moved_spots : (first body : ℕ) (parts : List (List Op))
    → map (piece_behind first) (places_from body parts) ≡ spots (first + body) parts
moved_spots first body [] = refl
moved_spots first body (part ∷ parts) =
    let next : first + (body + 1) ≡ first + body + 1 = omega arith in
    map-append (piece_behind first) (map (λ index. record { body = body; index = index }) (range_with_len 0 (length part)))
    (places_from (body + 1) parts)
    ∙ ap (λ (ps : List PieceAt). ps ++ map (piece_behind first) (places_from (body + 1) parts))
    (moved_in first body (range_with_len 0 (length part)))
    ∙ ap (λ (ps : List PieceAt). spots_in (first + body) (length part) ++ ps)
    (moved_spots first (body + 1) parts ∙ ap (λ n. spots n parts) next)

spots_append : (body : ℕ) (xs ys : List (List Op)) → spots body (xs ++ ys) ≡ spots body xs ++ spots (body + length xs) ys
spots_append body [] ys = let same : body ≡ body + 0 = omega arith in ap (λ n. spots n ys) same
spots_append body (x ∷ xs) ys =
    let next : body + 1 + length xs ≡ body + suc (length xs) = omega arith in
    ap (λ (ps : List PieceAt). spots_in body (length x) ++ ps)
    (spots_append (body + 1) xs ys ∙ ap (λ n. spots (body + 1) xs ++ spots n ys) next)
    ∙ sym (append_assoc (spots_in body (length x)) (spots (body + 1) xs) (spots (body + suc (length xs)) ys))

moved_alone : (first : ℕ) (places : List Piece)
    → map (λ (ps : List Piece). map (piece_behind first) ps) (map alone places) ≡ map alone (map (piece_behind first) places)
moved_alone first [] = refl
moved_alone first (p ∷ ps) = ap (λ (rest : List (List PieceAt)). (piece_behind first p ∷ []) ∷ rest) (moved_alone first ps)

-- ---- the plan

-- The bodies are those of these parts, the operations stand in them in order, and each operation has the one place where
-- it stands.
pub record IsLaidOut (planned : ClientBodies) (ops : List Op) : Type 0 where
  pub parts : List (List Op)
  pub bodies' : planned.bodies ≡ map body_words parts
  pub readable : AreReadable parts
  pub whole : flat_map (λ part. part) parts ≡ ops
  pub pieces' : planned.pieces ≡ map (λ (p : PieceAt). p ∷ []) (spots 0 parts)

laid_more : (payload : ℕ) (all : ClientBodies) (contents : Contents) (before ops : List Op) → 16 ≤ payload
    → AllByRecursion HasOneWord ops → IsPacked ops payload contents → IsLaidOut all before
    → IsLaidOut (with_dispatch all contents) (before ++ ops)
laid_more payload all contents before ops low one is laid =
    let n = length all.bodies in
    let count : n ≡ length laid.parts = ap length laid.bodies' ∙ length-map laid.parts body_words in
    let first : n + 0 ≡ 0 + length laid.parts = omega (arith, count) in
    let places : contents.pieces ≡ map alone (places_from 0 is.parts) =
    singles payload is.parts ops contents.pieces low one is.pieces ∙ ap (map alone) is.places in
    let moved_here : map (λ (ps : List Piece). map (piece_behind n) ps) contents.pieces
    ≡ map alone (spots (0 + length laid.parts) is.parts) =
    ap (map (λ (ps : List Piece). map (piece_behind n) ps)) places ∙ moved_alone n (places_from 0 is.parts)
    ∙ ap (map alone) (moved_spots n 0 is.parts ∙ ap (λ m. spots m is.parts) first) in
    record {
      parts = laid.parts ++ is.parts;
      bodies' = ap (λ (bs : List (List ℕ)). bs ++ contents.bodies) laid.bodies'
          ∙ ap (λ (bs : List (List ℕ)). map body_words laid.parts ++ bs) is.bodies
          ∙ sym (map-append body_words laid.parts is.parts);
      readable = AllByRecursion-append (λ (part : List Op). AreRequests (body_requests part)) laid.parts is.parts
          laid.readable is.readable;
      whole = flat_map-append (λ (part : List Op). part) laid.parts is.parts
          ∙ ap (λ (xs : List Op). xs ++ flat_map (λ (part : List Op). part) is.parts) laid.whole
          ∙ ap (λ (xs : List Op). before ++ xs) (is.packing.whole ∙ whole_cut payload ops low one);
      pieces' = ap (λ (ps : List (List PieceAt)). ps ++ map (λ (ps : List Piece). map (piece_behind n) ps) contents.pieces)
          laid.pieces'
          ∙ ap (λ (ps : List (List PieceAt)). map alone (spots 0 laid.parts) ++ ps) moved_here
          ∙ sym (map-append alone (spots 0 laid.parts) (spots (0 + length laid.parts) is.parts))
          ∙ ap (map alone) (sym (spots_append 0 laid.parts is.parts));
    }

laid_all : (payload board : ℕ) (ds : List (List RegOp)) (all : ClientBodies) (before : List Op) → 16 ≤ payload
    → AreDispatchesPacked payload board ds → AllByRecursion HasOneWord (flat_map (ops_on board) ds)
    → IsLaidOut all before
    → IsLaidOut (fold with_dispatch all (map (λ dispatch. packed_contents payload (ops_on board dispatch)) ds))
    (before ++ flat_map (ops_on board) ds)
laid_all payload board [] all before low packings one laid =
    subst (IsLaidOut all) (sym (append-nil before)) laid
laid_all payload board (d ∷ ds) all before low packings one laid =
    let here = ops_on board d in
    let later = flat_map (ops_on board) ds in
    let contents = packed_contents payload here in
    let next = laid_more payload all contents before here low (front_of_all HasOneWord here later one) packings.0 laid in
    subst (IsLaidOut (fold with_dispatch (with_dispatch all contents)
    (map (λ dispatch. packed_contents payload (ops_on board dispatch)) ds))) (append_assoc before here later)
    (laid_all payload board ds (with_dispatch all contents) (before ++ here) low packings.1
    (back_of_all HasOneWord here later one) next)

-- ---- the operations on a board

pub ops_append : (board : ℕ) (xs ys : List RegOp) → ops_on board (xs ++ ys) ≡ ops_on board xs ++ ops_on board ys
ops_append board [] ys = refl
ops_append board (x ∷ xs) ys =
    one_and_more board x (xs ++ ys) ∙ ap (λ (os : List Op). ops_on board (x ∷ []) ++ os) (ops_append board xs ys)
    ∙ sym (append_assoc (ops_on board (x ∷ [])) (ops_on board xs) (ops_on board ys))
    ∙ ap (λ (os : List Op). os ++ ops_on board ys) (sym (one_and_more board x xs))

one_word_on : (board : ℕ) (ops : List RegOp) → AllByRecursion IsOfOneWord ops → AllByRecursion HasOneWord (ops_on board ops)
one_word_on board [] one = tt
one_word_on board (op ∷ ops) one = elim (cases_Bool (op.board == board)) [
  | inl here ↦ rw here (one.0, one_word_on board ops one.1)
  | inr away ↦ rw away (one_word_on board ops one.1)
]

pub laid_out : (payload board : ℕ) (steps : List Step) → 16 ≤ payload → AreOfOneWord steps → ArePacked payload board steps
    → IsLaidOut (planned_on board (Live payload) steps) (ops_on board (operations steps))
laid_out payload board steps low one packings =
    let each : AllByRecursion HasOneWord (flat_map (ops_on board) (dispatches steps)) =
    subst (AllByRecursion HasOneWord) (sym (ops_dispatched board steps)) (one_word_on board (operations steps) one) in
    subst (IsLaidOut (planned_on board (Live payload) steps)) (ops_dispatched board steps)
    (laid_all payload board (dispatches steps) no_bodies [] low packings each
    (record { parts = []; bodies' = refl; readable = tt; whole = refl; pieces' = refl }))
