-- The request at the place of each piece of a plan is that piece.
use Rattle.std.proofs.Common.{◌≡◌, ℕ, zero, suc, ◌+◌, ◌<◌, ◌^◌, List, [], ◌∷◌, ◌++◌, length, map, Option, Some}
use Rattle.std.proofs.Common.{None, refl, sym, ap, ◌∙◌, subst, arith, append_assoc, append-nil}
use Rattle.std.specs.List.{slice_get, flat_map, fold, AllByRecursion}
use Rattle.std.specs.Option.{option_and_then, option_map}
use Rattle.std.proofs.lemmas.Option.{same_Some, slice_get-map}
use Rattle.transaction_codec.specs.declared.request.Op.{Op}
use Rattle.transaction_codec.specs.declared.request.Request.{Request}
use Rattle.transaction_codec.specs.Request.{AreRequests, IsRequest, requests_words}
use Rattle.world_model.proofs.Lists.{get_front}
use Rattle.mtu_packer.specs.declared.packed.Piece.{Piece}
use Rattle.mtu_packer.specs.Cutting.{cut_pieces}
use Rattle.mtu_packer.specs.Packing.{requests_from, body_requests, body_words, AreReadable}
use Rattle.mtu_packer.specs.Packed.{piece_at, pieces_at, Contents, IsPacked, packed_contents}
use Rattle.script_steps.specs.declared.operation.RegOp.{RegOp}
use Rattle.script_steps.specs.declared.operation.Step.{Step}
use Rattle.script_plans.specs.declared.planned.PieceAt.{PieceAt}
use Rattle.script_plans.specs.Plan.{ClientBodies, no_bodies, piece_behind, dispatches, operations, ops_on, plan}
use Rattle.script_plans.specs.Plan.{with_dispatch, all_dispatches}
use Rattle.board_history.proofs.Lists.{Both, all_at, both_append, both_map, both_same, get_back}
use Rattle.board_history.proofs.Asking.{heads, ops_dispatched}

-- ---- the request at a place

-- the body of this number spells requests, of which the one at the index asks for the piece
pub record IsRequested (bodies : List (List ℕ)) (one : Op) (body index : ℕ) : Type 0 where
  pub requests : List Request
  pub ranges : AreRequests requests
  pub there : slice_get bodies body ≡ Some (requests_words requests)
  pub at' : slice_get requests index ≡ Some (record { tid = index; op = one })

-- so of each piece of an operation, in packets of so many words
abbrev pub AreRequested : List (List ℕ) → ℕ → Op → List PieceAt → Type 0
AreRequested bodies payload op pieces =
    Both (λ (one : Op) (p : PieceAt). IsRequested bodies one p.body p.index) (cut_pieces payload op) pieces

-- a number of a transaction has 12 bits
pub low_index : (bodies : List (List ℕ)) (one : Op) (body index : ℕ) → IsRequested bodies one body index
    → index < 2 ^ 12
low_index bodies one body index is =
    (all_at IsRequest is.requests index (record { tid = index; op = one }) is.ranges is.at').tid

abbrev request_for : ℕ → Op → Request
request_for tid op = record { tid = tid; op = op }

request_there : (first : ℕ) (part : List Op) (index : ℕ) (op : Op) → slice_get part index ≡ Some op
    → slice_get (requests_from first part) index ≡ Some (request_for (first + index) op)
request_there first [] index op here = absurd cc
request_there first (o ∷ part) zero op here =
    let same : first ≡ first + 0 = omega arith in
    ap (λ (x : Op). Some (request_for first x)) (same_Some o op here)
    ∙ ap (λ (n : ℕ). Some (request_for n op)) same
request_there first (o ∷ part) (suc index) op here =
    let next : first + 1 + index ≡ first + suc index = omega arith in
    request_there (first + 1) part index op here ∙ ap (λ (n : ℕ). Some (request_for n op)) next

requested_in : (parts : List (List Op)) → AreReadable parts → (body index : ℕ) (one : Op) (found : Option (List Op))
    → slice_get parts body ≡ found → option_and_then (λ part. slice_get part index) found ≡ Some one
    → IsRequested (map body_words parts) one body index
requested_in parts readable body index one None is here = absurd cc
requested_in parts readable body index one (Some part) is here =
    let same : 0 + index ≡ index = omega arith in
    record {
      requests = body_requests part;
      ranges = all_at (λ part. AreRequests (body_requests part)) parts body part readable is;
      there = slice_get-map body_words parts body ∙ ap (option_map body_words) is;
      at' = request_there 0 part index one here ∙ ap (λ (n : ℕ). Some (request_for n one)) same;
    }

-- the same where pieces are counted within one packing
abbrev ArePieces : List (List ℕ) → ℕ → Op → List Piece → Type 0
ArePieces bodies payload op pieces =
    Both (λ (one : Op) (p : Piece). IsRequested bodies one p.body p.index) (cut_pieces payload op) pieces

each_requested : (parts : List (List Op)) → AreReadable parts → (ones : List Op) (places : List Piece)
    → map (piece_at parts) places ≡ map Some ones
    → Both (λ (one : Op) (p : Piece). IsRequested (map body_words parts) one p.body p.index) ones places
each_requested parts readable [] [] e = tt
each_requested parts readable [] (p ∷ ps) e = absurd cc
each_requested parts readable (one ∷ ones) [] e = absurd cc
each_requested parts readable (one ∷ ones) (p ∷ ps) e =
    let both = heads (piece_at parts p) (Some one) (map (piece_at parts) ps) (map Some ones) e in (
      requested_in parts readable p.body p.index one (slice_get parts p.body) refl both.head,
      each_requested parts readable ones ps both.tail,
    )

ops_requested : (parts : List (List Op)) → AreReadable parts → (payload : ℕ) (ops : List Op)
    (pieces : List (List Piece))
    → map (pieces_at parts) pieces ≡ map (λ op. map Some (cut_pieces payload op)) ops
    → Both (ArePieces (map body_words parts) payload) ops pieces
ops_requested parts readable payload [] [] e = tt
ops_requested parts readable payload [] (ps ∷ pieces) e = absurd cc
ops_requested parts readable payload (op ∷ ops) [] e = absurd cc
ops_requested parts readable payload (op ∷ ops) (ps ∷ pieces) e =
    let both = heads (pieces_at parts ps) (map Some (cut_pieces payload op)) (map (pieces_at parts) pieces)
    (map (λ op. map Some (cut_pieces payload op)) ops) e in (
      each_requested parts readable (cut_pieces payload op) ps both.head,
      ops_requested parts readable payload ops pieces both.tail,
    )

contents_requested : (payload : ℕ) (ops : List Op) (c : Contents) → IsPacked ops payload c
    → Both (ArePieces c.bodies payload) ops c.pieces
contents_requested payload ops c is =
    subst (λ (bodies : List (List ℕ)). Both (ArePieces bodies payload) ops c.pieces) (sym is.bodies)
    (ops_requested is.parts is.readable payload ops c.pieces is.pieces)

-- ---- through all dispatches

module _ (bodies more : List (List ℕ)) where
  requested_front : (one : Op) (p : PieceAt) → IsRequested bodies one p.body p.index
      → IsRequested (bodies ++ more) one p.body p.index
  requested_front one p is = record {
    requests = is.requests;
    ranges = is.ranges;
    there = get_front bodies more p.body (requests_words is.requests) is.there;
    at' = is.at';
  }

  requested_back : (one : Op) (p : Piece) → IsRequested more one p.body p.index
      → IsRequested (bodies ++ more) one (length bodies + p.body) p.index
  requested_back one p is = record {
    requests = is.requests;
    ranges = is.ranges;
    there = get_back bodies more p.body (requests_words is.requests) is.there;
    at' = is.at';
  }

  all_front : (payload : ℕ) (op : Op) (ps : List PieceAt) → AreRequested bodies payload op ps
      → AreRequested (bodies ++ more) payload op ps
  all_front payload op ps is =
      both_same (λ (one : Op) (p : PieceAt). IsRequested bodies one p.body p.index)
      (λ (one : Op) (p : PieceAt). IsRequested (bodies ++ more) one p.body p.index) (cut_pieces payload op) ps
      requested_front is

  all_back : (payload : ℕ) (op : Op) (ps : List Piece) → ArePieces more payload op ps
      → AreRequested (bodies ++ more) payload op (map (piece_behind (length bodies)) ps)
  all_back payload op ps is =
      both_map (λ (one : Op) (p : Piece). IsRequested more one p.body p.index)
      (λ (one : Op) (p : PieceAt). IsRequested (bodies ++ more) one p.body p.index) (piece_behind (length bodies))
      (cut_pieces payload op) ps requested_back is

dispatches_requested : (payload board : ℕ) (ds : List (List RegOp)) (all : ClientBodies) (ops : List Op)
    → AllByRecursion (λ dispatch. IsPacked (ops_on board dispatch) payload (packed_contents payload (ops_on board dispatch))) ds
    → Both (AreRequested all.bodies payload) ops all.pieces
    → Both (AreRequested (fold with_dispatch all
    (map (λ dispatch. packed_contents payload (ops_on board dispatch)) ds)).bodies payload)
    (ops ++ flat_map (ops_on board) ds)
    (fold with_dispatch all (map (λ dispatch. packed_contents payload (ops_on board dispatch)) ds)).pieces
dispatches_requested payload board [] all ops is both =
    subst (λ (xs : List Op). Both (AreRequested all.bodies payload) xs all.pieces) (sym (append-nil ops)) both
dispatches_requested payload board (d ∷ ds) all ops is both =
    let c = packed_contents payload (ops_on board d) in
    let next = with_dispatch all c in
    let here : Both (AreRequested next.bodies payload) (ops ++ ops_on board d) next.pieces =
    both_append (AreRequested next.bodies payload) ops all.pieces (ops_on board d)
    (map (λ pieces. map (piece_behind (length all.bodies)) pieces) c.pieces)
    (both_same (AreRequested all.bodies payload) (AreRequested next.bodies payload) ops all.pieces
    (λ op ps. all_front all.bodies c.bodies payload op ps) both)
    (both_map (ArePieces c.bodies payload) (AreRequested next.bodies payload)
    (λ pieces. map (piece_behind (length all.bodies)) pieces) (ops_on board d) c.pieces
    (λ op ps. all_back all.bodies c.bodies payload op ps)
    (contents_requested payload (ops_on board d) c is.0)) in
    let all_of = fold with_dispatch next (map (λ dispatch. packed_contents payload (ops_on board dispatch)) ds) in
    subst (λ (xs : List Op). Both (AreRequested all_of.bodies payload) xs all_of.pieces)
    (append_assoc ops (ops_on board d) (flat_map (ops_on board) ds))
    (dispatches_requested payload board ds next (ops ++ ops_on board d) is.1 here)

pub plan_requested : (payload board : ℕ) (steps : List Step)
    → AllByRecursion (λ dispatch. IsPacked (ops_on board dispatch) payload (packed_contents payload (ops_on board dispatch)))
    (dispatches steps)
    → Both (AreRequested (all_dispatches (plan payload board steps)).bodies payload)
    (ops_on board (operations steps)) (all_dispatches (plan payload board steps)).pieces
plan_requested payload board steps is =
    let all = all_dispatches (plan payload board steps) in
    subst (λ (xs : List Op). Both (AreRequested all.bodies payload) xs all.pieces) (ops_dispatched board steps)
    (dispatches_requested payload board (dispatches steps) no_bodies [] is tt)
