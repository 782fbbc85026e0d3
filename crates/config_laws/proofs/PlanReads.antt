-- The bodies of a client that reads single words.
use Rattle.std.proofs.Common.{◌≡◌, ℕ, zero, suc, ◌+◌, ◌-◌, ◌*◌, ◌<◌, ◌≤◌, ◌==◌, List, [], ◌∷◌, ◌++◌, map}
use Rattle.std.proofs.Common.{Option, Some, None, refl, sym, ap, ◌∙◌, subst, arith}
use Rattle.std.specs.Prelude.{min}
use Rattle.std.specs.Int.{div_ceil}
use Rattle.std.specs.List.{AllByRecursion, flat_map, range_with_len, slice_get}
use Rattle.std.specs.Option.{option_and_then, option_map}
use Rattle.std.proofs.lemmas.Grind.{div_ceil_times}
use Rattle.std.proofs.lemmas.Option.{same_Some, slice_get-map}
use Rattle.transaction_codec.specs.declared.request.Op.{Op}
use Rattle.transaction_codec.specs.declared.request.Op.TheVariants.{Read, ReadPort, Write, WritePort, RmwBits, RmwSum}
use Rattle.world_model.proofs.Lists.{either}
use Rattle.mtu_packer.specs.declared.packed.Piece.{Piece}
use Rattle.mtu_packer.specs.Cutting.{cut_pieces, piece, piece_count, piece_limit}
use Rattle.mtu_packer.specs.Packing.{AreReadable, body_words}
use Rattle.mtu_packer.specs.Packed.{IsPacked, packed_contents, piece_at, pieces_at}
use Rattle.mtu_packer.proofs.Pieces.{piece_limit-some}
use Rattle.script_steps.specs.declared.operation.RegOp.{RegOp}
use Rattle.script_steps.specs.declared.operation.Step.{Step}
use Rattle.script_steps.specs.declared.operation.Step.TheVariants.{Do, Denied, Dispatch}
use Rattle.script_plans.specs.declared.greeting.Greeting.TheVariants.{Live}
use Rattle.script_plans.specs.declared.planned.PieceAt.{PieceAt}
use Rattle.script_plans.specs.Plan.{ClientBodies, all_dispatches, into_next_dispatch, dispatches, piece_behind, operations, ops_on}
use Rattle.script_plans.specs.Plan.{planned_on}
use Rattle.board_history.proofs.Asking.{heads}
use Rattle.board_history.proofs.Readiness.{ArePacked}
use Rattle.config_laws.specs.Reads.{IsMaskedRead, IsWordRead, ReadSingleWords}

-- ---- one piece for each read

pub exactly_one : (limit n : ℕ) → 1 ≤ limit → 1 ≤ n * limit → n * limit < 1 + limit → n ≡ 1
exactly_one limit zero some low high = let none : 0 * limit ≡ 0 = grind arith in absurd (omega (arith, low, none))
exactly_one limit (suc zero) some low high = refl
exactly_one limit (suc (suc n)) some low high =
    let more : limit + limit ≤ suc (suc n) * limit = grind arith in absurd (omega (arith, more, high, some))

one_cut : (payload base : ℕ) → 16 ≤ payload → cut_pieces payload (Read base 1) ≡ Read base 1 ∷ []
one_cut payload base low =
    let limit = piece_limit payload (Read base 1) in
    let some : 1 ≤ limit = piece_limit-some payload (Read base 1) low in
    let bounds = div_ceil_times 1 limit some in
    let count : piece_count payload (Read base 1) ≡ 1 = exactly_one limit (div_ceil 1 limit) some bounds.0 bounds.1 in
    let none : 0 * limit ≡ 0 = grind arith in
    let address : base + 0 * limit ≡ base = omega (arith, none) in
    let words : min limit (1 - 0 * limit) ≡ 1 = omega (arith, none, some) in
    ap (λ n. map (piece payload (Read base 1)) (range_with_len 0 n)) count
    ∙ (ap (λ a. Read a (min limit (1 - 0 * limit)) ∷ []) address ∙ ap (λ n. Read base n ∷ []) words)

word_cut : (payload : ℕ) (op : Op) → 16 ≤ payload → IsWordRead op → cut_pieces payload op ≡ op ∷ []
word_cut payload (Read base count) low one =
    subst (λ n. cut_pieces payload (Read base n) ≡ Read base n ∷ []) (sym one) (one_cut payload base low)
word_cut payload (ReadPort base count) low one = absurd one
word_cut payload (Write base words) low one = absurd one
word_cut payload (WritePort base words) low one = absurd one
word_cut payload (RmwBits base and_term or_term) low one = absurd one
word_cut payload (RmwSum base addend) low one = absurd one

whole_cut : (payload : ℕ) (ops : List Op) → 16 ≤ payload → AllByRecursion IsWordRead ops
    → flat_map (cut_pieces payload) ops ≡ ops
whole_cut payload [] low reads = refl
whole_cut payload (op ∷ ops) low reads =
    ap (λ (xs : List Op). xs ++ flat_map (cut_pieces payload) ops) (word_cut payload op low reads.0)
    ∙ ap (λ (xs : List Op). op ∷ xs) (whole_cut payload ops low reads.1)

-- ---- all of several lists

pub both_all : {T : Type 0} (P : T → Type 0) (xs ys : List T) → AllByRecursion P (xs ++ ys)
    → AllByRecursion P xs × AllByRecursion P ys
both_all P [] ys all = (tt, all)
both_all P (x ∷ xs) ys all = let rest = both_all P xs ys all.1 in ((all.0, rest.0), rest.1)

each_all : {T : Type 0} (P : T → Type 0) (lists : List (List T)) → AllByRecursion P (flat_map (λ xs. xs) lists)
    → AllByRecursion (AllByRecursion P) lists
each_all P [] all = tt
each_all P (xs ∷ lists) all =
    let both = both_all P xs (flat_map (λ ys. ys) lists) all in (both.0, each_all P lists both.1)

-- ---- where a read stands

record StandsAt (parts : List (List Op)) (places : List Piece) (op : Op) : Type 0 where
  place : Piece
  only : places ≡ place ∷ []
  part : List Op
  there : slice_get parts place.body ≡ Some part
  at' : slice_get part place.index ≡ Some op

stands_in : (parts : List (List Op)) (place : Piece) (op : Op) (found : Option (List Op))
    → slice_get parts place.body ≡ found → option_and_then (λ part. slice_get part place.index) found ≡ Some op
    → StandsAt parts (place ∷ []) op
stands_in parts place op None there at = absurd cc
stands_in parts place op (Some part) there at =
    record { place = place; only = refl; part = part; there = there; at' = at }

one_there : (parts : List (List Op)) (places : List Piece) (op : Op) → map (piece_at parts) places ≡ Some op ∷ []
    → StandsAt parts places op
one_there parts [] op same = absurd cc
one_there parts (p ∷ []) op same =
    let both = heads (piece_at parts p) (Some op) [] [] same in
    stands_in parts p op (slice_get parts p.body) refl both.head
one_there parts (p ∷ (q ∷ ps)) op same = absurd cc

record HasPlace (parts : List (List Op)) (pieces : List (List Piece)) (k : ℕ) (op : Op) : Type 0 where
  places : List Piece
  here : slice_get pieces k ≡ Some places
  stands : StandsAt parts places op

has_place : (payload : ℕ) (parts : List (List Op)) (ops : List Op) (pieces : List (List Piece)) → 16 ≤ payload
    → AllByRecursion IsWordRead ops → map (pieces_at parts) pieces ≡ map (λ op. map Some (cut_pieces payload op)) ops
    → (k : ℕ) (op : Op) → slice_get ops k ≡ Some op → HasPlace parts pieces k op
has_place payload parts [] pieces low reads same k op at = absurd cc
has_place payload parts (o ∷ ops) [] low reads same k op at = absurd cc
has_place payload parts (o ∷ ops) (ps ∷ pieces) low reads same zero op at =
    let both = heads (pieces_at parts ps) (map Some (cut_pieces payload o)) (map (pieces_at parts) pieces)
    (map (λ op. map Some (cut_pieces payload op)) ops) same in
    let one : map (piece_at parts) ps ≡ Some o ∷ [] =
    both.head ∙ ap (λ (xs : List Op). map Some xs) (word_cut payload o low reads.0) in
    record {
      places = ps;
      here = refl;
      stands = subst (λ (x : Op). StandsAt parts ps x) (same_Some o op at) (one_there parts ps o one);
    }
has_place payload parts (o ∷ ops) (ps ∷ pieces) low reads same (suc k) op at =
    let both = heads (pieces_at parts ps) (map Some (cut_pieces payload o)) (map (pieces_at parts) pieces)
    (map (λ op. map Some (cut_pieces payload op)) ops) same in
    let later = has_place payload parts ops pieces low reads.1 both.tail k op at in
    record { places = later.places; here = later.here; stands = later.stands }

-- ---- the steps

pub reads_of : (steps : List Step) → ReadSingleWords steps → AllByRecursion IsMaskedRead (operations steps)
reads_of [] reads = tt
reads_of (Do op ∷ steps) reads = (reads.0, reads_of steps reads.1)
reads_of (Denied rule op ∷ steps) reads = absurd reads.0
reads_of (Dispatch ∷ steps) reads = absurd reads.0

one_dispatch : (steps : List Step) → ReadSingleWords steps → dispatches steps ≡ operations steps ∷ []
one_dispatch [] reads = refl
one_dispatch (Do op ∷ steps) reads = ap (into_next_dispatch op) (one_dispatch steps reads.1)
one_dispatch (Denied rule op ∷ steps) reads = absurd reads.0
one_dispatch (Dispatch ∷ steps) reads = absurd reads.0

reads_on : (board : ℕ) (ops : List RegOp) → AllByRecursion IsMaskedRead ops
    → AllByRecursion IsWordRead (ops_on board ops)
reads_on board [] reads = tt
reads_on board (o ∷ ops) reads =
    either (λ (xs : List Op). AllByRecursion IsWordRead xs) (o.board == board) (o.op ∷ ops_on board ops)
    (ops_on board ops) (λ _. ((reads.0).one_word, reads_on board ops reads.1)) (λ _. reads_on board ops reads.1)

-- ---- the plan

-- the one piece of a read, among bodies of such reads
pub record IsReadAt (planned : ClientBodies) (k : ℕ) (op : Op) : Type 0 where
  pub parts : List (List Op)
  pub bodies' : planned.bodies ≡ map body_words parts
  pub readable : AreReadable parts
  pub reads : AllByRecursion (AllByRecursion IsWordRead) parts
  pub place : PieceAt
  pub pieces' : slice_get planned.pieces k ≡ Some (place ∷ [])
  pub part : List Op
  pub there : slice_get parts place.body ≡ Some part
  pub at' : slice_get part place.index ≡ Some op

pub planned_reads : (payload board : ℕ) (steps : List Step) → 16 ≤ payload → ReadSingleWords steps
    → ArePacked payload board steps → (k : ℕ) (op : Op) → slice_get (ops_on board (operations steps)) k ≡ Some op
    → IsReadAt (planned_on board (Live payload) steps) k op
planned_reads payload board steps low reads packings k op at =
    let ops = ops_on board (operations steps) in
    let contents = packed_contents payload ops in
    let one = one_dispatch steps reads in
    let each : AllByRecursion IsWordRead ops = reads_on board (operations steps) (reads_of steps reads) in
    let is : IsPacked ops payload contents = (subst (λ (ds : List (List RegOp)).
    AllByRecursion (λ d. IsPacked (ops_on board d) payload (packed_contents payload (ops_on board d))) ds) one packings).0 in
    let planned : all_dispatches (contents ∷ []) ≡ planned_on board (Live payload) steps =
    ap (λ (ds : List (List RegOp)). all_dispatches (map (λ d. packed_contents payload (ops_on board d)) ds)) (sym one) in
    let whole : flat_map (λ part. part) is.parts ≡ ops = is.packing.whole ∙ whole_cut payload ops low each in
    let found = has_place payload is.parts ops contents.pieces low each is.pieces k op at in
    let place = found.stands.place in
    let first : place.body ≡ 0 + place.body = omega arith in
    subst (λ (p : ClientBodies). IsReadAt p k op) planned (record {
      parts = is.parts;
      bodies' = is.bodies;
      readable = is.readable;
      reads = each_all IsWordRead is.parts (subst (λ (xs : List Op). AllByRecursion IsWordRead xs) (sym whole) each);
      place = piece_behind 0 place;
      pieces' = slice_get-map (λ (ps : List Piece). map (piece_behind 0) ps) contents.pieces k
          ∙ ap (option_map (λ (ps : List Piece). map (piece_behind 0) ps))
          (found.here ∙ ap (λ (ps : List Piece). Some ps) found.stands.only);
      part = found.stands.part;
      there = subst (λ n. slice_get is.parts n ≡ Some found.stands.part) first found.stands.there;
      at' = found.stands.at';
    })
