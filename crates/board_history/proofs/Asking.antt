-- The request at the place of each piece of a plan.
use Rattle.std.proofs.Common.{◌≡◌, ℕ, zero, suc, ◌+◌, ◌<◌, ◌==◌, cond, List, [], ◌∷◌, ◌++◌, length, map, Option, Some}
use Rattle.std.proofs.Common.{None, refl, sym, ap, ◌∙◌, subst, inl, inr, arith, append_assoc, append-nil}
use Rattle.std.specs.List.{AllByRecursion, slice_get, flat_map, fold}
use Rattle.std.specs.Option.{option_and_then, option_map}
use Rattle.std.proofs.lemmas.Bool.{cases_Bool, eq-eqb}
use Rattle.std.proofs.lemmas.List.{length-map}
use Rattle.std.proofs.lemmas.List.Sums.{sum_by-cons}
use Rattle.std.proofs.lemmas.Option.{same_Some, slice_get-map}
use Rattle.ipb_base.proofs.AllLemmas.{all-map}
use Rattle.transaction_codec.specs.declared.request.Op.{Op}
use Rattle.transaction_codec.specs.declared.request.Op.TheVariants.{Read, ReadPort, Write, WritePort, RmwBits, RmwSum}
use Rattle.transaction_codec.specs.declared.request.Request.{Request}
use Rattle.transaction_codec.specs.Request.{AreRequests, requests_words}
use Rattle.world_model.proofs.Lists.{get_front}
use Rattle.mtu_packer.specs.declared.packed.Piece.{Piece}
use Rattle.mtu_packer.specs.Cutting.{cut_pieces, piece}
use Rattle.mtu_packer.specs.Packing.{requests_from, body_requests, body_words, AreReadable}
use Rattle.mtu_packer.specs.Packed.{piece_at, pieces_at, Contents, IsPacked, packed_contents}
use Rattle.script_steps.specs.declared.operation.RegOp.{RegOp}
use Rattle.script_steps.specs.declared.operation.Step.{Step}
use Rattle.script_steps.specs.declared.operation.Step.TheVariants.{Do, Denied, Dispatch}
use Rattle.script_plans.proofs.PlanLemmas.{one_and_more}
use Rattle.script_plans.specs.declared.planned.PieceAt.{PieceAt}
use Rattle.script_plans.specs.Plan.{ClientBodies, no_bodies, piece_behind, into_next_dispatch, dispatches, operations, ops_on, plan}
use Rattle.script_plans.specs.Plan.{with_dispatch, all_dispatches, count_on}
use Rattle.script_steps.specs.Executable.{IsRmw}
use Rattle.board_history.proofs.Readiness.{ArePacked}
use Rattle.board_history.proofs.Lists.{Both, all_at, both_append, both_map, both_same, get_back}

-- ---- the request at a place

-- a request of the body stands there; an RMW where the operation is one
pub record IsAsked (bodies : List (List ℕ)) (op : Op) (body index : ℕ) : Type 0 where
  pub requests : List Request
  pub ranges : AreRequests requests
  pub there : slice_get bodies body ≡ Some (requests_words requests)
  pub request : Request
  pub at' : slice_get requests index ≡ Some request
  pub rmw : IsRmw op → IsRmw request.op

pub record AreAsked (bodies : List (List ℕ)) (op : Op) (pieces : List PieceAt) : Type 0 where
  pub each : AllByRecursion (λ (p : PieceAt). IsAsked bodies op p.body p.index) pieces
  pub some : IsRmw op → 0 < length pieces

record ArePieces (bodies : List (List ℕ)) (op : Op) (pieces : List Piece) : Type 0 where
  each' : AllByRecursion (λ (p : Piece). IsAsked bodies op p.body p.index) pieces
  some' : IsRmw op → 0 < length pieces

request_there : (first : ℕ) (part : List Op) (index : ℕ) (op : Op) → slice_get part index ≡ Some op
    → (tid : ℕ) × (slice_get (requests_from first part) index ≡ Some (record { tid = tid; op = op }))
request_there first [] index op here = absurd cc
request_there first (o ∷ part) zero op here =
    (first, ap (λ (x : Op). Some (record { tid = first; op = x })) (same_Some o op here))
request_there first (o ∷ part) (suc index) op here = request_there (first + 1) part index op here

asked_in : (parts : List (List Op)) → AreReadable parts → (body index : ℕ) (op one : Op) → (IsRmw op → IsRmw one)
    → (found : Option (List Op))
    → slice_get parts body ≡ found → option_and_then (λ part. slice_get part index) found ≡ Some one
    → IsAsked (map body_words parts) op body index
asked_in parts readable body index op one rmw None is here = absurd cc
asked_in parts readable body index op one rmw (Some part) is here =
    let request = request_there 0 part index one here in
    record {
      requests = body_requests part;
      ranges = all_at (λ part. AreRequests (body_requests part)) parts body part readable is;
      there = slice_get-map body_words parts body ∙ ap (option_map body_words) is;
      request = record { tid = request.0; op = one };
      at' = request.1;
      rmw = rmw;
    }

pub record Heads {A : Type 0} (x y : A) (xs ys : List A) : Type 0 where
  pub head : x ≡ y
  pub tail : xs ≡ ys

pub heads : {A : Type 0} (x y : A) (xs ys : List A) → x ∷ xs ≡ y ∷ ys → Heads x y xs ys
heads x y xs ys e = record { head = cc; tail = cc }

each_asked : (parts : List (List Op)) → AreReadable parts → (op : Op) (ones : List Op) (places : List Piece)
    → map (piece_at parts) places ≡ map Some ones → AllByRecursion (λ one. IsRmw op → IsRmw one) ones
    → AllByRecursion (λ (p : Piece). IsAsked (map body_words parts) op p.body p.index) places
each_asked parts readable op ones [] e all = tt
each_asked parts readable op [] (p ∷ ps) e all = absurd cc
each_asked parts readable op (one ∷ ones) (p ∷ ps) e all =
    let both = heads (piece_at parts p) (Some one) (map (piece_at parts) ps) (map Some ones) e in (
      asked_in parts readable p.body p.index op one all.0 (slice_get parts p.body) refl both.head,
      each_asked parts readable op ones ps both.tail all.1,
    )

-- the pieces of an RMW are RMWs, and there is one
rmw_piece : (payload : ℕ) (op : Op) (k : ℕ) → IsRmw op → IsRmw (piece payload op k)
rmw_piece payload (Read base count) k is = absurd is
rmw_piece payload (ReadPort base count) k is = absurd is
rmw_piece payload (Write base words) k is = absurd is
rmw_piece payload (WritePort base words) k is = absurd is
rmw_piece payload (RmwBits base and_term or_term) k is = tt
rmw_piece payload (RmwSum base addend) k is = tt

rmw_pieces : (payload : ℕ) (op : Op) (ks : List ℕ)
    → AllByRecursion (λ one. IsRmw op → IsRmw one) (map (piece payload op) ks)
rmw_pieces payload op [] = tt
rmw_pieces payload op (k ∷ ks) = (rmw_piece payload op k, rmw_pieces payload op ks)

rmw_some : (payload : ℕ) (op : Op) → IsRmw op → 0 < length (cut_pieces payload op)
rmw_some payload (Read base count) is = absurd is
rmw_some payload (ReadPort base count) is = absurd is
rmw_some payload (Write base words) is = absurd is
rmw_some payload (WritePort base words) is = absurd is
rmw_some payload (RmwBits base and_term or_term) is = omega arith
rmw_some payload (RmwSum base addend) is = omega arith

ops_asked : (parts : List (List Op)) → AreReadable parts → (payload : ℕ) (ops : List Op) (pieces : List (List Piece))
    → map (pieces_at parts) pieces ≡ map (λ op. map Some (cut_pieces payload op)) ops
    → Both (ArePieces (map body_words parts)) ops pieces
ops_asked parts readable payload [] [] e = tt
ops_asked parts readable payload [] (ps ∷ pieces) e = absurd cc
ops_asked parts readable payload (op ∷ ops) [] e = absurd cc
ops_asked parts readable payload (op ∷ ops) (ps ∷ pieces) e =
    let both = heads (pieces_at parts ps) (map Some (cut_pieces payload op)) (map (pieces_at parts) pieces)
    (map (λ op. map Some (cut_pieces payload op)) ops) e in
    let long : length ps ≡ length (cut_pieces payload op) =
    sym (length-map ps (piece_at parts)) ∙ ap length both.head ∙ length-map (cut_pieces payload op) Some in (
      record {
        each' = each_asked parts readable op (cut_pieces payload op) ps both.head (rmw_pieces payload op _);
        some' = λ is. subst (λ (n : ℕ). 0 < n) (sym long) (rmw_some payload op is);
      },
      ops_asked parts readable payload ops pieces both.tail,
    )

contents_asked : (payload : ℕ) (ops : List Op) (c : Contents) → IsPacked ops payload c
    → Both (ArePieces c.bodies) ops c.pieces
contents_asked payload ops c is =
    subst (λ (bodies : List (List ℕ)). Both (ArePieces bodies) ops c.pieces) (sym is.bodies)
    (ops_asked is.parts is.readable payload ops c.pieces is.pieces)

-- ---- through all dispatches

module _ (bodies more : List (List ℕ)) (op : Op) where
  asked_front : (body index : ℕ) → IsAsked bodies op body index → IsAsked (bodies ++ more) op body index
  asked_front body index is = record {
    requests = is.requests;
    ranges = is.ranges;
    there = get_front bodies more body (requests_words is.requests) is.there;
    request = is.request;
    at' = is.at';
    rmw = is.rmw;
  }

  asked_back : (body index : ℕ) → IsAsked more op body index → IsAsked (bodies ++ more) op (length bodies + body) index
  asked_back body index is = record {
    requests = is.requests;
    ranges = is.ranges;
    there = get_back bodies more body (requests_words is.requests) is.there;
    request = is.request;
    at' = is.at';
    rmw = is.rmw;
  }

  all_front : (ps : List PieceAt) → AreAsked bodies op ps → AreAsked (bodies ++ more) op ps
  all_front ps is = record {
    each = all-map (λ (p : PieceAt). IsAsked bodies op p.body p.index)
        (λ (p : PieceAt). IsAsked (bodies ++ more) op p.body p.index) ps (λ p. asked_front p.body p.index) is.each;
    some = is.some;
  }

  each_back : (ps : List Piece) → AllByRecursion (λ (p : Piece). IsAsked more op p.body p.index) ps
      → AllByRecursion (λ (p : PieceAt). IsAsked (bodies ++ more) op p.body p.index) (map (piece_behind (length bodies)) ps)
  each_back [] all = tt
  each_back (p ∷ ps) all = (asked_back p.body p.index all.0, each_back ps all.1)

  all_back : (ps : List Piece) → ArePieces more op ps → AreAsked (bodies ++ more) op (map (piece_behind (length bodies)) ps)
  all_back ps is = record {
    each = each_back ps is.each';
    some = λ rmw. subst (λ (n : ℕ). 0 < n) (sym (length-map ps (piece_behind (length bodies)))) (is.some' rmw);
  }

dispatches_asked : (payload board : ℕ) (ds : List (List RegOp)) (all : ClientBodies) (ops : List Op)
    → AllByRecursion (λ dispatch. IsPacked (ops_on board dispatch) payload (packed_contents payload (ops_on board dispatch))) ds
    → Both (AreAsked all.bodies) ops all.pieces
    → Both (AreAsked (fold with_dispatch all (map (λ dispatch. packed_contents payload (ops_on board dispatch)) ds)).bodies)
    (ops ++ flat_map (ops_on board) ds)
    (fold with_dispatch all (map (λ dispatch. packed_contents payload (ops_on board dispatch)) ds)).pieces
dispatches_asked payload board [] all ops is both =
    subst (λ (xs : List Op). Both (AreAsked all.bodies) xs all.pieces) (sym (append-nil ops)) both
dispatches_asked payload board (d ∷ ds) all ops is both =
    let c = packed_contents payload (ops_on board d) in
    let next = with_dispatch all c in
    let here : Both (AreAsked next.bodies) (ops ++ ops_on board d) next.pieces =
    both_append (AreAsked next.bodies) ops all.pieces (ops_on board d)
    (map (λ pieces. map (piece_behind (length all.bodies)) pieces) c.pieces)
    (both_same (AreAsked all.bodies) (AreAsked next.bodies) ops all.pieces
    (λ op ps. all_front all.bodies c.bodies op ps) both)
    (both_map (ArePieces c.bodies) (AreAsked next.bodies) (λ pieces. map (piece_behind (length all.bodies)) pieces)
    (ops_on board d) c.pieces (λ op ps. all_back all.bodies c.bodies op ps)
    (contents_asked payload (ops_on board d) c is.0)) in
    let all_of = fold with_dispatch next (map (λ dispatch. packed_contents payload (ops_on board dispatch)) ds) in
    subst (λ (xs : List Op). Both (AreAsked all_of.bodies) xs all_of.pieces)
    (append_assoc ops (ops_on board d) (flat_map (ops_on board) ds))
    (dispatches_asked payload board ds next (ops ++ ops_on board d) is.1 here)

-- ---- the operations on the board

begun_ops : (board : ℕ) (op : RegOp) (ds : List (List RegOp))
    → flat_map (ops_on board) (into_next_dispatch op ds) ≡ ops_on board (op ∷ []) ++ flat_map (ops_on board) ds
begun_ops board op [] = refl
begun_ops board op (d ∷ later) =
    ap (λ (xs : List Op). xs ++ flat_map (ops_on board) later) (one_and_more board op d)
    ∙ append_assoc (ops_on board (op ∷ [])) (ops_on board d) (flat_map (ops_on board) later)

pub ops_dispatched : (board : ℕ) (steps : List Step)
    → flat_map (ops_on board) (dispatches steps) ≡ ops_on board (operations steps)
ops_dispatched board [] = refl
ops_dispatched board (Do op ∷ steps) =
    begun_ops board op (dispatches steps)
    ∙ ap (λ (xs : List Op). ops_on board (op ∷ []) ++ xs) (ops_dispatched board steps)
    ∙ sym (one_and_more board op (operations steps))
ops_dispatched board (Denied rule op ∷ steps) = ops_dispatched board steps
ops_dispatched board (Dispatch ∷ steps) = ops_dispatched board steps

pub plan_asked : (payload board : ℕ) (steps : List Step) → ArePacked payload board steps
    → Both (AreAsked (all_dispatches (plan payload board steps)).bodies) (ops_on board (operations steps))
    (all_dispatches (plan payload board steps)).pieces
plan_asked payload board steps is =
    let all = all_dispatches (plan payload board steps) in
    subst (λ (xs : List Op). Both (AreAsked all.bodies) xs all.pieces) (ops_dispatched board steps)
    (dispatches_asked payload board (dispatches steps) no_bodies [] is tt)

-- the operation behind others is the one by their count
pub op_at : (before later : List RegOp) (op : RegOp)
    → slice_get (ops_on op.board (before ++ op ∷ later)) (count_on op.board before) ≡ Some op.op
op_at [] later op = rw (eq-eqb op.board op.board refl) refl
op_at (b ∷ before) later op =
    let count : count_on op.board (b ∷ before) ≡ cond (b.board == op.board) 1 0 + count_on op.board before =
    sum_by-cons (λ (o : RegOp). cond (o.board == op.board) 1 0) b before in
    elim (cases_Bool (b.board == op.board)) [
      | inl here ↦
          (let one : cond {A = ℕ} (b.board == op.board) 1 0 ≡ 1 = ap (λ t. cond {A = ℕ} t 1 0) here in
          let more : count_on op.board (b ∷ before) ≡ suc (count_on op.board before) = omega (arith, count, one) in
          rw (more, here) (op_at before later op))
      | inr away ↦
          (let none : cond {A = ℕ} (b.board == op.board) 1 0 ≡ 0 = ap (λ t. cond {A = ℕ} t 1 0) away in
          let same : count_on op.board (b ∷ before) ≡ count_on op.board before = omega (arith, count, none) in
          rw (same, away) (op_at before later op))
    ]
