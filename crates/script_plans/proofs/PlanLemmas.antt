-- Planning, step by step, and what holds of the bodies of a plan.
use Rattle.std.proofs.Common.{◌≡◌, ℕ, zero, suc, ◌+◌, ◌≤◌, ◌<◌, ◌^◌, ◌==◌, length, get_or, drop, map, List, [], ◌∷◌}
use Rattle.std.proofs.Common.{◌++◌}
use Rattle.std.proofs.Common.{Result, Ok, Err, refl, sym, ap, subst, ◌∙◌, inl, inr, arith, append_assoc, append-nil, add-one, drop-cons}
use Rattle.std.specs.List.{AllByRecursion, All, flat_map, fold, range_with_len}
use Rattle.std.specs.Result.{OnOk}
use Rattle.std.proofs.lemmas.Bool.{cases_Bool}
use Rattle.std.proofs.lemmas.List.{drop_all}
use Rattle.std.proofs.lemmas.List.Elements.{All-nil, All-cons, All-append}
use Rattle.ipb_base.proofs.AllLemmas.{AllByRecursion-append, all_of_each}
use Rattle.transaction_codec.specs.declared.request.Op.{Op}
use Rattle.transaction_codec.specs.Request.{AreRequests, SpellsRequests}
use Rattle.mtu_packer.specs.declared.packed.Piece.{Piece}
use Rattle.mtu_packer.specs.Cutting.{CanBeCut, cut_pieces}
use Rattle.mtu_packer.specs.Packing.{AreReadable, requests_from}
use Rattle.mtu_packer.specs.Packed.{Contents, FitsPackets, IsPacked, packed_contents, places_in, places_from}
use Rattle.script_steps.specs.Packing.{CanBePacked, IsSelection, HaveFewPieces}
use Rattle.script_steps.specs.Packing as script
use Rattle.mtu_packer.specs.declared.packing.TheConstants.{MIN_PAYLOAD}
use Rattle.script_steps.specs.declared.operation.RegOp.{RegOp}
use Rattle.script_steps.specs.declared.operation.Step.{Step}
use Rattle.script_steps.specs.declared.operation.Step.TheVariants.{Do, Denied, Dispatch}
use Rattle.script_plans.specs.Plan.{ClientBodies, no_bodies, AreSound, IsWithinBody, piece_behind, into_next_dispatch, dispatches, ops_on}
use Rattle.script_plans.specs.Plan.{AreSpelled, all_dispatches, plan, with_dispatch}
use Rattle.script_plans.specs.Steps.{dispatches_left, HaveFewBehind, IsPlanning}

-- ---- indices

-- a request of a body has a number of 12 bits
abbrev pub HasSmallIndex : Piece → Type 0
HasSmallIndex piece = piece.index < 2 ^ 12

-- requests whose identifiers a reader accepts are few
few_requests : (tid : ℕ) (part : List Op) → tid ≤ 2 ^ 12 → AreRequests (requests_from tid part)
    → tid + length part ≤ 2 ^ 12
few_requests tid [] low all = omega arith
few_requests tid (op ∷ ops) low all =
    let here : tid < 2 ^ 12 = all.0.tid in
    let more : tid + 1 + length ops ≤ 2 ^ 12 = few_requests (tid + 1) ops (omega arith) all.1 in
    omega arith

indices_small : (body first n : ℕ) → first + n ≤ 2 ^ 12
    → AllByRecursion HasSmallIndex (map (λ index. record { body = body; index = index }) (range_with_len first n))
indices_small body first zero low = tt
indices_small body first (suc n) low = (omega arith, indices_small body (first + 1) n (omega arith))

places_small : (body : ℕ) (parts : List (List Op)) → AreReadable parts
    → AllByRecursion HasSmallIndex (places_from body parts)
places_small body [] readable = tt
places_small body (part ∷ parts) readable =
    let few : 0 + length part ≤ 2 ^ 12 = few_requests 0 part (omega arith) readable.0 in
    AllByRecursion-append HasSmallIndex (places_in body (length part)) (places_from (body + 1) parts)
    (indices_small body 0 (length part) few) (places_small (body + 1) parts readable.1)

pub pieces_small : (ops : List Op) (payload : ℕ) (contents : Contents) → IsPacked ops payload contents
    → AllByRecursion (AllByRecursion HasSmallIndex) contents.pieces
pieces_small ops payload contents is =
    all_of_each HasSmallIndex contents.pieces (subst (AllByRecursion HasSmallIndex) (sym is.places)
    (places_small 0 is.parts is.readable))

one_moved : (first : ℕ) (pieces : List Piece) → AllByRecursion HasSmallIndex pieces
    → AllByRecursion IsWithinBody (map (piece_behind first) pieces)
one_moved first [] all = tt
one_moved first (piece ∷ pieces) all = (all.0, one_moved first pieces all.1)

pub all_moved : (first : ℕ) (pieces : List (List Piece)) → AllByRecursion (AllByRecursion HasSmallIndex) pieces
    → AllByRecursion (AllByRecursion IsWithinBody) (map (λ pieces. map (piece_behind first) pieces) pieces)
all_moved first [] all = tt
all_moved first (some ∷ more) all = (one_moved first some all.0, all_moved first more all.1)

-- ---- dispatches

-- what holds of what was planned holds of what equals it
pub on_equal : {X Y : Type 0} (P : ClientBodies → Type 0) (r : Result X Y) (new is : ClientBodies) → OnOk r (new ≡ is)
    → P is → OnOk r (P new)
on_equal P (Ok x) new is same holds = subst P (sym same) holds
on_equal P (Err y) new is same holds = tt

-- a sound plan with a dispatch more is sound
pub sound_more : (all : ClientBodies) (ops : List Op) (payload : ℕ) (contents : Contents) → AreSound all
    → IsPacked ops payload contents → AreSpelled contents.bodies → AreSound (with_dispatch all contents)
sound_more all ops payload contents sound packed spelled = record {
  spelled = AllByRecursion-append SpellsRequests all.bodies contents.bodies sound.spelled spelled;
  within = AllByRecursion-append (AllByRecursion IsWithinBody) all.pieces _ sound.within
      (all_moved (length all.bodies) contents.pieces (pieces_small ops payload contents packed));
}

-- the operations on a board of one operation and of more
pub one_and_more : (board : ℕ) (op : RegOp) (ops : List RegOp)
    → ops_on board (op ∷ ops) ≡ ops_on board (op ∷ []) ++ ops_on board ops
one_and_more board op ops =
    elim (cases_Bool (op.board == board)) [
      | inl here ↦ rw here
      | inr away ↦ rw away
    ]

can_be_cut : (board : ℕ) (op : RegOp) → CanBeCut op.op → All CanBeCut (ops_on board (op ∷ []))
can_be_cut board op can =
    elim (cases_Bool (op.board == board)) [
      | inl here ↦ rw here (All-cons CanBeCut op.op [] can (All-nil CanBeCut))
      | inr away ↦ rw away (All-nil CanBeCut)
    ]

-- a selection of the rest is one of all, with the first or without
selected_later : (ops : List Op) (first : Op) (rest : List Op) → IsSelection ops rest → IsSelection ops (first ∷ rest)
selected_later [] first rest is = tt
selected_later (op ∷ ops) first rest is = inr is

-- what waits and an operation more are few, where what waits was, with any selection of the rest
few_more : (payload board : ℕ) (queued : List Op) (op : RegOp) (steps : List Step)
    → HaveFewBehind payload queued (Do op ∷ steps)
    → HaveFewBehind payload (queued ++ ops_on board (op ∷ [])) steps
few_more payload board queued op steps few ops is =
    elim (cases_Bool (op.board == board)) [
      | inl here ↦ rw (here, append_assoc) (few (op.op ∷ ops) (inl (refl, is)))
      | inr away ↦ rw (away, append-nil) (few ops (selected_later ops op.op (script.operations steps) is))
    ]

few_without : (payload : ℕ) (queued : List Op) (op : RegOp) (steps : List Step)
    → HaveFewBehind payload queued (Do op ∷ steps)
    → HaveFewBehind payload queued steps
few_without payload queued op steps few ops is = few ops (selected_later ops op.op (script.operations steps) is)

module _ (payload board : ℕ) where
  queued_on : (queued : List Op) (op : RegOp) (later : List (List RegOp))
      → dispatches_left payload board queued (into_next_dispatch op later)
      ≡ dispatches_left payload board (queued ++ ops_on board (op ∷ [])) later
  queued_on queued op [] = refl
  queued_on queued op (dispatch ∷ later) =
      ap (λ ops. packed_contents payload ops ∷ map (λ ops. packed_contents payload (ops_on board ops)) later)
      (ap (λ ops. queued ++ ops) (one_and_more board op dispatch)
      ∙ sym (append_assoc queued (ops_on board (op ∷ [])) (ops_on board dispatch)))

  begun_anew : (op : RegOp) (later : List (List RegOp))
      → map (λ ops. packed_contents payload (ops_on board ops)) (into_next_dispatch op later) ≡ dispatches_left payload board [] (into_next_dispatch op later)
  begun_anew op [] = refl
  begun_anew op (dispatch ∷ later) = refl

  -- with nothing waiting, there is a dispatch at least, and each is packed
  begins_anew : (steps : List Step)
      → map (λ ops. packed_contents payload (ops_on board ops)) (dispatches steps)
      ≡ dispatches_left payload board [] (dispatches steps)
  begins_anew [] = refl
  begins_anew (Do op ∷ steps) = begun_anew op (dispatches steps)
  begins_anew (Denied rule op ∷ steps) = begins_anew steps
  begins_anew (Dispatch ∷ steps) = refl

module _ (payload board : ℕ) (steps : List Step) (i : ℕ) (all : ClientBodies) (queued : List Op) (step : Step)
    (so_far : IsPlanning payload board steps i all queued) (within : i < length steps) (is : step ≡ get_or steps i step)
  where
    left : drop i steps ≡ step ∷ drop (i + 1) steps
    left = drop-cons steps i step within ∙ (ap (λ s. s ∷ drop (suc i) steps) (sym is) ∙ rw add-one)

    pub after_dispatch : step ≡ Dispatch → AreSound (with_dispatch all (packed_contents payload queued))
        → AllByRecursion (FitsPackets payload) (with_dispatch all (packed_contents payload queued)).bodies
        → IsPlanning payload board steps (i + 1) (with_dispatch all (packed_contents payload queued)) []
    after_dispatch none sound room =
        let rest : drop i steps ≡ Dispatch ∷ drop (i + 1) steps = left ∙ ap (λ s. s ∷ drop (i + 1) steps) none in
        let planned = rw rest at so_far.planned in
        let few : HaveFewBehind payload [] (drop (i + 1) steps) = subst (HaveFewBehind payload []) rest so_far.few_later
        in
        let can = rw rest at so_far.can_later in
        record {
          planned =
              ap (fold with_dispatch (with_dispatch all (packed_contents payload queued)))
              (sym (begins_anew payload board (drop (i + 1) steps)))
              ∙ (ap (λ ops. fold with_dispatch (with_dispatch all (packed_contents payload ops))
              (map (λ ops. packed_contents payload (ops_on board ops)) (dispatches (drop (i + 1) steps))))
              (sym (append-nil queued)) ∙ planned);
          sound = sound;
          room = room;
          can = All-nil CanBeCut;
          can_later = can.1;
          few = few;
          few_later = few;
        }

    -- of what is denied nothing waits
    pub after_denied : (rule : ℕ) (op : RegOp) → step ≡ Denied rule op
        → IsPlanning payload board steps (i + 1) all queued
    after_denied rule op denies =
        let rest : drop i steps ≡ Denied rule op ∷ drop (i + 1) steps =
        left ∙ ap (λ s. s ∷ drop (i + 1) steps) denies in
        let can = rw rest at so_far.can_later in
        record {
          planned = rw rest at so_far.planned;
          sound = so_far.sound;
          room = so_far.room;
          can = so_far.can;
          can_later = can.1;
          few = subst (HaveFewBehind payload queued) rest so_far.few;
          few_later = subst (HaveFewBehind payload []) rest so_far.few_later;
        }

    pub after_operation : (op : RegOp) → step ≡ Do op
        → IsPlanning payload board steps (i + 1) all (queued ++ ops_on board (op ∷ []))
    after_operation op asks =
        let rest : drop i steps ≡ Do op ∷ drop (i + 1) steps = left ∙ ap (λ s. s ∷ drop (i + 1) steps) asks in
        let planned = rw rest at so_far.planned in
        let can = rw rest at so_far.can_later in
        record {
          planned = ap (fold with_dispatch all) (sym (queued_on payload board queued op
              (dispatches (drop (i + 1) steps)))) ∙ planned;
          sound = so_far.sound;
          room = so_far.room;
          can = All-append CanBeCut queued (ops_on board (op ∷ [])) so_far.can (can_be_cut board op can.0);
          can_later = can.1;
          few = few_more payload board queued op (drop (i + 1) steps)
              (subst (HaveFewBehind payload queued) rest so_far.few);
          few_later = few_without payload [] op (drop (i + 1) steps)
              (subst (HaveFewBehind payload []) rest so_far.few_later);
        }

-- behind the last step, what waits is the last dispatch
pub planned_at_end : (payload board : ℕ) (steps : List Step) (i : ℕ) (all : ClientBodies) (queued : List Op)
    → IsPlanning payload board steps i all queued → length steps ≤ i
    → with_dispatch all (packed_contents payload queued) ≡ all_dispatches (plan payload board steps)
planned_at_end payload board steps i all queued so_far past =
    ap (λ ops. with_dispatch all (packed_contents payload ops)) (sym (append-nil queued))
    ∙ (ap (λ left. fold with_dispatch all (dispatches_left payload board queued (dispatches left)))
    (sym (drop_all i steps past)) ∙ so_far.planned)

pub at_start : (payload board : ℕ) (steps : List Step) → AllByRecursion CanBePacked steps → MIN_PAYLOAD ≤ payload
    → HaveFewPieces steps → IsPlanning payload board steps 0 no_bodies []
at_start payload board steps can low few = record {
  planned = ap (fold with_dispatch no_bodies) (sym (begins_anew payload board steps));
  sound = record { spelled = tt; within = tt };
  room = tt;
  can = All-nil CanBeCut;
  can_later = can;
  few = λ ops is. few ops payload is low;
  few_later = λ ops is. few ops payload is low;
}

-- what waits alone is few
pub few_waiting : (payload : ℕ) (queued : List Op) (steps : List Step) → HaveFewBehind payload queued steps
    → length (flat_map (cut_pieces payload) queued) ≤ 2 ^ 31
few_waiting payload queued steps few =
    subst (λ ops. length (flat_map (cut_pieces payload) ops) ≤ 2 ^ 31) (append-nil queued) (few [] tt)
