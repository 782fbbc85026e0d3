-- What is shown of the operations of a client alone on a board, where each of them was done.
use Rattle.std.proofs.Common.{◌≡◌, ℕ, zero, suc, ◌+◌, ◌<◌, true, List, [], ◌∷◌, ◌++◌, length, map}
use Rattle.std.proofs.Common.{Option, Some, None, refl, sym, ap, ◌∙◌, subst, arith, length-append}
use Rattle.std.specs.List.{flat_map, range_with_len, slice_get}
use Rattle.std.specs.Option.{option_map}
use Rattle.std.proofs.lemmas.List.{length-map}
use Rattle.std.proofs.lemmas.List.FromFn.{length-range_with_len}
use Rattle.std.proofs.lemmas.Option.{same_Some, slice_get-map}
use Rattle.world_model.proofs.Lists.{get_within}
use Rattle.transaction_codec.specs.declared.request.Op.{Op}
use Rattle.board_bus.specs.Cells.{CellMap, HoldsWords}
use Rattle.board_bus.specs.Transactions.{outcome}
use Rattle.script_steps.specs.declared.operation.RegOp.{RegOp}
use Rattle.script_plans.specs.declared.board_run.ClientPart.{ClientPart}
use Rattle.script_plans.specs.declared.planned.PieceAt.{PieceAt}
use Rattle.script_plans.specs.Plan.{ClientBodies}
use Rattle.transcript.specs.declared.body_end.BodyEnd.{BodyEnd}
use Rattle.transcript.specs.declared.line.OpResult.{OpResult}
use Rattle.transcript.specs.Ends.{ends_of, ends_with, piece_result}
use Rattle.transcript.specs.Results.{combined_result, is_good, shown_result}
use Rattle.transcript.proofs.GoodResults.{good_piece}
use Rattle.transcript.specs.Lines.{by_pieces}
use Rattle.board_history.specs.InTurn.{outcomes_from}
use Rattle.board_history.proofs.Answering.{Answering, AnsweringAny, Garbling, Joins, Keeping, KeepingAll}
use Rattle.config_laws.specs.Turns.{after_ops}
use Rattle.config_laws.proofs.BusReads.{Failures, Successes}
use Rattle.config_laws.proofs.TurnOps.{AreAllDone, done_behind, shown_done, told_turn, turn_behind, turns}
use Rattle.config_laws.proofs.TurnBodies.{AllGood, OneAnswer}
use Rattle.config_laws.proofs.TurnParts.{ends, parts_done, results_at, spots, spots_in}
use Rattle.config_laws.proofs.TurnPlans.{IsLaidOut}

-- ---- as many places as operations

spots_count : (body : ℕ) (parts : List (List Op)) → length (spots body parts) ≡ length (flat_map (λ part. part) parts)
spots_count body [] = refl
spots_count body (part ∷ parts) =
    let here : length (spots_in body (length part)) ≡ length part =
    length-map (range_with_len 0 (length part)) (λ index. record { body = body; index = index })
    ∙ length-range_with_len 0 (length part) in
    let later = spots_count (body + 1) parts in
    let one = length-append (spots_in body (length part)) (spots (body + 1) parts) in
    let two = length-append part (flat_map (λ (p : List Op). p) parts) in
    omega (arith, here, later, one, two)

pub get_there : {T : Type 0} (xs : List T) (k : ℕ) → k < length xs → (x : T) × (slice_get xs k ≡ Some x)
get_there [] k within = absurd (omega arith)
get_there (x ∷ xs) zero within = (x, refl)
get_there (x ∷ xs) (suc k) within = get_there xs k (omega arith)

-- ---- a client's part on a board

-- what became of these bodies where nobody else asked for any
abbrev pub part_alone : CellMap → ClientBodies → ClientPart
part_alone cells planned =
    record { planned = planned; outcomes = outcomes_from 1 cells planned.bodies; lates = [] }

-- for each operation on the board something good is shown
abbrev pub AllShownGood : CellMap → ClientBodies → List Op → Type 0
AllShownGood cells planned ops =
    (k : ℕ) (op : Op) → slice_get ops k ≡ Some op → (asked : RegOp)
    × (is_good (by_pieces (part_alone cells planned) asked (slice_get planned.pieces k)).0 ≡ true)

-- the operation behind others is done, and shown so
pub record IsDoneBehind (cells : CellMap) (planned : ClientBodies) (before : List Op) (op : RegOp) : Type 0 where
  pub done : (outcome (after_ops cells before) op.op).fault ≡ None
  pub shown' : (by_pieces (part_alone cells planned) op (slice_get planned.pieces (length before))).0
      ≡ shown_result op.verb op.mask (outcome (after_ops cells before) op.op).values

module _ (success : Successes) (failure : Failures) (only : OneAnswer) (answering : Answering) (any : AnsweringAny)
    (keeping : Keeping) (keeping_all : KeepingAll) (garbling : Garbling) (joins : Joins) where
  module _ (cells : CellMap) (planned : ClientBodies) (ops : List Op) (laid : IsLaidOut planned ops) where
    abbrev places : List PieceAt
    places = spots 0 laid.parts

    ends_are : ends_of (part_alone cells planned) ≡ ends 1 cells laid.parts
    ends_are =
        ap (λ (bodies : List (List ℕ)). ends_with bodies (outcomes_from 1 cells bodies) []) laid.bodies'

    -- what the operation of a number came to
    piece_at_place : (k : ℕ) (asked : RegOp) (p : PieceAt) → slice_get places k ≡ Some p
        → (by_pieces (part_alone cells planned) asked (slice_get planned.pieces k)).0
        ≡ combined_result asked.verb asked.mask (piece_result (ends 1 cells laid.parts) p ∷ [])
    piece_at_place k asked p at =
        let here : slice_get planned.pieces k ≡ Some (p ∷ []) =
        ap (λ (ps : List (List PieceAt)). slice_get ps k) laid.pieces'
        ∙ slice_get-map (λ (x : PieceAt). x ∷ []) places k
        ∙ ap (option_map (λ (x : PieceAt). x ∷ [])) at in
        ap (λ (o : Option (List PieceAt)). (by_pieces (part_alone cells planned) asked o).0) here
        ∙ ap (λ (es : List BodyEnd). combined_result asked.verb asked.mask (piece_result es p ∷ [])) ends_are

    all_good : AllShownGood cells planned ops → AllGood (map (piece_result (ends 1 cells laid.parts)) places)
    all_good good = good_from places (λ k p at. each k p at) where
      each : (k : ℕ) (p : PieceAt) → slice_get places k ≡ Some p
          → is_good (piece_result (ends 1 cells laid.parts) p) ≡ true
      each k p at =
          let within = get_within places k p at in
          let count = spots_count 0 laid.parts ∙ ap length laid.whole in
          let found = get_there ops k (omega (arith, within, count)) in
          let asked = good k found.0 found.1 in
          good_piece (asked.0).verb (asked.0).mask (piece_result (ends 1 cells laid.parts) p)
          (subst (λ (r : OpResult). is_good r ≡ true) (piece_at_place k asked.0 p at) asked.1)

      good_from : (ps : List PieceAt)
          → ((k : ℕ) (p : PieceAt) → slice_get ps k ≡ Some p
          → is_good (piece_result (ends 1 cells laid.parts) p) ≡ true)
          → AllGood (map (piece_result (ends 1 cells laid.parts)) ps)
      good_from [] look = tt
      good_from (p ∷ ps) look = (look zero p refl, good_from ps (λ k q at. look (suc k) q at))

    pub done_on_board : HoldsWords cells → AllShownGood cells planned ops → (before later : List Op) (op : RegOp)
        → before ++ op.op ∷ later ≡ ops → IsDoneBehind cells planned before op
    done_on_board holds good before later op split =
        let same = results_at 1 cells laid.parts in
        let parts = parts_done success failure only answering any keeping keeping_all garbling joins 1 cells laid.parts
        holds laid.readable (subst AllGood same (all_good good)) in
        let split_parts : flat_map (λ (part : List Op). part) laid.parts ≡ before ++ op.op ∷ later =
        laid.whole ∙ sym split in
        let done : AreAllDone cells (before ++ op.op ∷ later) = subst (AreAllDone cells) split_parts parts.done in
        let told : map (piece_result (ends 1 cells laid.parts)) places ≡ turns cells (before ++ op.op ∷ later) =
        same ∙ parts.told' ∙ ap (turns cells) split_parts in
        let none = done_behind cells before later op.op done in
        let count : length places ≡ length before + suc (length later) =
        spots_count 0 laid.parts ∙ ap length split_parts ∙ length-append before (op.op ∷ later) in
        let found = get_there places (length before) (omega (arith, count)) in
        let here : Some (piece_result (ends 1 cells laid.parts) found.0)
        ≡ Some (told_turn (after_ops cells before) op.op) =
        sym (slice_get-map (piece_result (ends 1 cells laid.parts)) places (length before)
        ∙ ap (option_map (piece_result (ends 1 cells laid.parts))) found.1)
        ∙ ap (λ (rs : List OpResult). slice_get rs (length before)) told ∙ turn_behind cells before later op.op in
        record {
          done = none;
          shown' = piece_at_place (length before) op found.0 found.1
              ∙ ap (λ (r : OpResult). combined_result op.verb op.mask (r ∷ []))
              (same_Some (piece_result (ends 1 cells laid.parts) found.0) (told_turn (after_ops cells before) op.op)
              here)
              ∙ shown_done (after_ops cells before) op.op op.verb op.mask none;
        }
