-- The bodies of a client alone on a board, where each of their operations was done.
use Rattle.std.proofs.Common.{◌≡◌, ℕ, ◌+◌, true, List, [], ◌∷◌, ◌++◌, length, map, Option, Some, None}
use Rattle.std.proofs.Common.{refl, sym, ap, ◌∙◌, subst, arith, append_assoc, length-append}
use Rattle.std.specs.List.{flat_map, range_with_len, slice_get}
use Rattle.std.proofs.lemmas.List.{map-append}
use Rattle.ipb_base.proofs.AllLemmas.{back_of_all, front_of_all}
use Rattle.world_model.proofs.Lists.{get_seam}
use Rattle.transaction_codec.specs.declared.request.Op.{Op}
use Rattle.mtu_packer.specs.Packing.{AreReadable, body_requests, body_words}
use Rattle.board_bus.specs.Cells.{CellMap, HoldsWords}
use Rattle.board_bus.specs.Bodies.{run_body}
use Rattle.reply_join.specs.declared.answer.Answer.{Answer}
use Rattle.reply_join.specs.Joining.{IsJoined}
use Rattle.reply_join.specs.ByWords.{answers}
use Rattle.lane_record.specs.declared.outcome.Outcome.TheVariants.{Replied}
use Rattle.script_plans.specs.declared.planned.PieceAt.{PieceAt}
use Rattle.transcript.specs.declared.body_end.BodyEnd.{BodyEnd}
use Rattle.transcript.specs.declared.body_end.Told.{Told}
use Rattle.transcript.specs.declared.body_end.Told.TheVariants.{Answered}
use Rattle.transcript.specs.declared.line.OpResult.{OpResult}
use Rattle.transcript.specs.Ends.{answer_result, end_of, ends_with, piece_result, result_in, told_at, told_by, told_of}
use Rattle.transcript.specs.Results.{is_good}
use Rattle.board_history.specs.InTurn.{outcomes_from}
use Rattle.board_history.proofs.Answering.{Answering, AnsweringAny, Garbling, IsTold, Joins, Keeping, KeepingAll}
use Rattle.board_history.proofs.Answering.{body_told, spelled_words}
use Rattle.config_laws.specs.Turns.{after_ops}
use Rattle.config_laws.proofs.BusReads.{Failures, Successes}
use Rattle.config_laws.proofs.TurnOps.{AreAllDone, done_append, turns, turns_append}
use Rattle.config_laws.proofs.TurnBodies.{AllGood, OneAnswer, joined_on, told_answer, told_answers}

-- ---- where transactions stand

abbrev pub spot : ℕ → ℕ → PieceAt
spot body index = record { body = body; index = index }

abbrev pub spots_in : ℕ → ℕ → List PieceAt
spots_in body count = map (spot body) (range_with_len 0 count)

-- the places of the transactions of bodies, the first of which has this number
abbrev pub spots : ℕ → List (List Op) → List PieceAt
spots body [] = []
spots body (part ∷ parts) = spots_in body (length part) ++ spots (body + 1) parts

-- ---- what they came to

abbrev told_body : ℕ → CellMap → List Op → Told
told_body place cells part = told_of (body_words part) (Replied place (run_body cells (body_words part)).reply) None

abbrev told_part : ℕ → CellMap → List Op → List OpResult
told_part place cells part = map (told_at (told_body place cells part)) (range_with_len 0 (length part))

abbrev pub results : ℕ → CellMap → List (List Op) → List OpResult
results place cells [] = []
results place cells (part ∷ parts) =
    told_part place cells part ++ results (place + 1) (run_body cells (body_words part)).cells parts

abbrev pub ends : ℕ → CellMap → List (List Op) → List BodyEnd
ends place cells parts = ends_with (map body_words parts) (outcomes_from place cells (map body_words parts)) []

spots_told : (all : List BodyEnd) (body : ℕ) (end : BodyEnd) → slice_get all body ≡ Some end → (places : List ℕ)
    → map (piece_result all) (map (spot body) places) ≡ map (told_at end.told) places
spots_told all body end at [] = refl
spots_told all body end at (place ∷ places) =
    ap (λ (found : Option BodyEnd). result_in found place ∷ map (piece_result all) (map (spot body) places)) at
    ∙ ap (λ (rs : List OpResult). told_at end.told place ∷ rs) (spots_told all body end at places)

results_behind : (front : List BodyEnd) (place : ℕ) (cells : CellMap) (parts : List (List Op))
    → map (piece_result (front ++ ends place cells parts)) (spots (length front) parts) ≡ results place cells parts
results_behind front place cells [] = refl
results_behind front place cells (part ∷ parts) =
    let left = (run_body cells (body_words part)).cells in
    let end : BodyEnd = end_of (body_words part) (Replied place (run_body cells (body_words part)).reply) None in
    let all = front ++ end ∷ ends (place + 1) left parts in
    let more : length (front ++ end ∷ []) ≡ length front + 1 = omega (arith, length-append front (end ∷ [])) in
    map-append (piece_result all) (spots_in (length front) (length part)) (spots (length front + 1) parts)
    ∙ ap (λ (rs : List OpResult). rs ++ map (piece_result all) (spots (length front + 1) parts))
    (spots_told all (length front) end (get_seam front (ends (place + 1) left parts) end)
    (range_with_len 0 (length part)))
    ∙ ap (λ (rs : List OpResult). told_part place cells part ++ rs)
    (ap (λ n. map (piece_result all) (spots n parts)) (sym more)
    ∙ ap (λ (es : List BodyEnd). map (piece_result es) (spots (length (front ++ end ∷ [])) parts))
    (sym (append_assoc front (end ∷ []) (ends (place + 1) left parts)))
    ∙ results_behind (front ++ end ∷ []) (place + 1) left parts)

pub results_at : (place : ℕ) (cells : CellMap) (parts : List (List Op))
    → map (piece_result (ends place cells parts)) (spots 0 parts) ≡ results place cells parts
results_at place cells parts = results_behind [] place cells parts

-- ---- one body

-- the answers to a body, place by place
answers_in_order : (front list : List Answer)
    → map (λ i. answer_result (slice_get (front ++ list) i)) (range_with_len (length front) (length list))
    ≡ told_answers list
answers_in_order front [] = refl
answers_in_order front (a ∷ list) =
    let more : length front + 1 ≡ length (front ++ a ∷ []) = omega (arith, length-append front (a ∷ [])) in
    let at : List Answer → ℕ → OpResult = λ all i. answer_result (slice_get all i) in
    ap (λ (o : Option Answer). answer_result o ∷ map (at (front ++ a ∷ list)) (range_with_len (length front + 1) (length list)))
    (get_seam front list a)
    ∙ ap (λ (rs : List OpResult). told_answer a ∷ rs)
    (ap (λ n. map (at (front ++ a ∷ list)) (range_with_len n (length list))) more
    ∙ ap (λ (all : List Answer). map (at all) (range_with_len (length (front ++ a ∷ [])) (length list)))
    (sym (append_assoc front (a ∷ []) list))
    ∙ answers_in_order (front ++ a ∷ []) list)

-- what is told of a body of which each operation was done
record BodyDone (place : ℕ) (cells : CellMap) (part : List Op) : Type 0 where
  done : AreAllDone cells part
  bus : (run_body cells (body_words part)).cells ≡ after_ops cells part
  told' : told_part place cells part ≡ turns cells part

-- what is told of bodies of which each operation was done
pub record PartsDone (place : ℕ) (cells : CellMap) (parts : List (List Op)) : Type 0 where
  pub done : AreAllDone cells (flat_map (λ part. part) parts)
  pub told' : results place cells parts ≡ turns cells (flat_map (λ part. part) parts)

module _ (success : Successes) (failure : Failures) (only : OneAnswer) (answering : Answering)
    (any : AnsweringAny) (keeping : Keeping) (keeping_all : KeepingAll) (garbling : Garbling) (joins : Joins) where
  body_done : (place : ℕ) (cells : CellMap) (part : List Op) → HoldsWords cells → AreReadable (part ∷ [])
      → AllGood (told_part place cells part) → BodyDone place cells part
  body_done place cells part holds readable good =
      let body = body_words part in
      let reply = (run_body cells body).reply in
      let told : IsTold body (Replied place reply) =
      body_told answering any keeping keeping_all garbling joins place cells body holds
      (body_requests part, readable.0, refl) in
      let same : reply ≡ told.words = cc in
      let joined : IsJoined body reply told.list = subst (λ (ws : List ℕ). IsJoined body ws told.list) (sym same)
      told.joined in
      let is = joined_on success failure only cells part told.list holds readable.0 joined in
      let found : told_body place cells part ≡ Answered told.list = ap told_by (ap (answers body) same ∙ told.found) in
      let each : told_part place cells part ≡ told_answers told.list =
      ap (λ (t : Told). map (told_at t) (range_with_len 0 (length part))) found
      ∙ ap (λ n. map (told_at (Answered told.list)) (range_with_len 0 n)) (sym is.count)
      ∙ answers_in_order [] told.list in
      let on = is.good (subst AllGood each good) in
      record { done = on.done; bus = on.bus; told' = each ∙ on.told }

  pub parts_done : (place : ℕ) (cells : CellMap) (parts : List (List Op)) → HoldsWords cells → AreReadable parts
      → AllGood (results place cells parts) → PartsDone place cells parts
  parts_done place cells [] holds readable good = record { done = tt; told' = refl }
  parts_done place cells (part ∷ parts) holds readable good =
      let left = (run_body cells (body_words part)).cells in
      let others = flat_map (λ (p : List Op). p) parts in
      let here = body_done place cells part holds (readable.0, tt)
      (front_of_all (λ (r : OpResult). is_good r ≡ true) (told_part place cells part) (results (place + 1) left parts)
      good) in
      let keeps = keeping cells (body_words part) holds (spelled_words (body_words part) (body_requests part, readable.0, refl))
      in
      let later = parts_done (place + 1) left parts keeps readable.1
      (back_of_all (λ (r : OpResult). is_good r ≡ true) (told_part place cells part) (results (place + 1) left parts)
      good) in
      record {
        done = done_append cells part others here.done (subst (λ (c : CellMap). AreAllDone c others) here.bus later.done);
        told' = ap (λ (rs : List OpResult). rs ++ results (place + 1) left parts) here.told'
            ∙ ap (λ (rs : List OpResult). turns cells part ++ rs)
            (later.told' ∙ ap (λ (c : CellMap). turns c others) here.bus)
            ∙ sym (turns_append cells part others);
      }
