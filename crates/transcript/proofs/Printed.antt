-- The lines of a run are such as its text tells.
use Rattle.std.proofs.Common.{◌≡◌, ℕ, ◌+◌, ◌<◌, ◌^◌, ◌==◌, length, map}
use Rattle.std.proofs.Common.{List, [], ◌∷◌, ◌++◌, Option, Some, None, refl, sym, subst, inl, inr, arith, length-append}
use Rattle.std.proofs.Common.{drop, get_or}
use Rattle.std.proofs.Math.Nat.{div-le_self}
use Rattle.std.specs.Int.Bits.{bit_and}
use Rattle.std.specs.List.{AllByRecursion, flat_map, slice_get}
use Rattle.std.specs.Option.{option_map}
use Rattle.std.specs.Prelude.{IfSome, option_to_list, unwrap_or}
use Rattle.std.proofs.lemmas.Bool.{cases_Bool}
use Rattle.std.proofs.lemmas.Nat.{and_le_l}
use Rattle.ipb_base.specs.Word.{IsWord, AreWords}
use Rattle.ipb_base.proofs.AllLemmas.{AllByRecursion-append, AllByRecursion-replicate}
use Rattle.masked_fields.specs.Field.{field, shift}
use Rattle.reply_join.specs.declared.answer.Answer.{Answer}
use Rattle.reply_join.specs.declared.answer.Answer.TheVariants as answer
use Rattle.reply_join.specs.Joining.{IsJoined, answer_of}
use Rattle.reply_join.specs.ByWords.{answers}
use Rattle.transaction_codec.specs.declared.reply.Reply.{Reply}
use Rattle.transaction_codec.specs.declared.info_code.TheConstants.{SUCCESS}
use Rattle.transaction_codec.specs.Header.{is_write}
use Rattle.transaction_codec.specs.Reply.{IsReply, AreReplies, HasForm}
use Rattle.script_steps.specs.declared.operation.Verb.{Verb}
use Rattle.script_steps.specs.declared.operation.Verb.TheVariants.{Read, Write, ReadBlock, WriteBlock, RmwBits, RmwSum}
use Rattle.script_steps.specs.declared.operation.RegOp.{RegOp}
use Rattle.script_steps.specs.declared.operation.Step.{Step}
use Rattle.script_steps.specs.Rulings.{Asked, asked_operations}
use Rattle.lane_record.specs.declared.outcome.Outcome.{Outcome}
use Rattle.lane_record.specs.declared.outcome.Outcome.TheVariants as became
use Rattle.script_plans.specs.declared.greeting.Greeting.{Greeting}
use Rattle.script_plans.specs.declared.greeting.Greeting.TheVariants.{Live, Silent, Down}
use Rattle.script_plans.specs.declared.planned.PieceAt.{PieceAt}
use Rattle.transcript.specs.declared.body_end.Told.{Told}
use Rattle.transcript.specs.declared.body_end.Told.TheVariants as told
use Rattle.transcript.specs.declared.body_end.BodyEnd.{BodyEnd}
use Rattle.script_plans.specs.declared.board_run.ClientPart.{ClientPart}
use Rattle.script_plans.specs.declared.board_run.BoardRun.{BoardRun}
use Rattle.transcript.specs.declared.line.LateAnswer.{LateAnswer}
use Rattle.transcript.specs.declared.line.LateAnswer.TheVariants as late_answer
use Rattle.transcript.specs.declared.line.OpResult.{OpResult}
use Rattle.transcript.specs.declared.line.OpResult.TheVariants.{Value, Done, Was, Error, Skipped, TimedOut, Late}
use Rattle.transcript.specs.declared.line.OpResult.TheVariants.{Unsent, LinkLost, Garbled, Denied}
use Rattle.script_plans.specs.Plan.{IsWithinBody}
use Rattle.transcript.specs.Ends.{told_by, told_timed_out, end_of, ends_with, ends_of, answer_result, late_of, late_at}
use Rattle.transcript.specs.Ends.{told_at}
use Rattle.transcript.specs.Ends.{result_in, piece_result}
use Rattle.transcript.specs.Ends.{place_at, place_in, piece_place}
use Rattle.transcript.specs.Results.{is_good, first_not_done, values_in, word_before, shown_result, shown_late, shown_not_done}
use Rattle.transcript.specs.Results.{op_places}
use Rattle.transcript.specs.Lines.{Showing, by_pieces, in_part, showing, shown_behind, line_of, lines_behind}
use Rattle.transcript.specs.Lines.{client_lines}
use Rattle.transcript.specs.Claims.{IsByte, IsPrinted, IsPrintedPlace, IsPrintedLine, IsInRange, IsPartInRange}
use Rattle.transcript.specs.Claims.{CanBeTold, HasWordsLate, IsPrintedLate, IsRunInRange}
use Rattle.script_plans.proofs.Lookups.{all_at}
use Rattle.transcript.proofs.Skipping.{Joins}

-- ---- bodies

PlaceFits : Option ℕ → Type 0
PlaceFits None = Unit {0}
PlaceFits (Some place) = place < 2 ^ 64

unfoldable pub AnswerFits : Answer → Type 0
AnswerFits (answer.Values words) = AreWords words
AnswerFits answer.Done = Unit {0}
AnswerFits (answer.Fault code after) = IsByte code × IsByte after
AnswerFits answer.Skipped = Unit {0}

ToldFits : Told → Type 0
ToldFits (told.Answered list) = AllByRecursion AnswerFits list
ToldFits told.Garbled = Unit {0}
ToldFits (told.TimedOut rounds) = IsByte rounds
ToldFits (told.Late rounds list) = IsByte rounds × IfSome list (AllByRecursion AnswerFits)
ToldFits told.Unsent = Unit {0}
ToldFits told.LinkLost = Unit {0}

record EndFits (end : BodyEnd) : Type 0 where
  place' : PlaceFits end.place
  told' : ToldFits end.told

code_fits : (kind code count carried : ℕ) → HasForm kind code count carried → IsByte code
code_fits kind code count carried (inl (is, more)) = omega arith
code_fits kind code count carried (inr (inl (is, more))) = omega (arith, is.0, is.1)
code_fits kind code count carried (inr (inr (is, read, none, nothing))) = omega arith

answer_fits : (reply : Reply) → IsReply reply → AnswerFits (answer_of reply)
unfolding AnswerFits
answer_fits reply is =
    elim (cases_Bool (reply.code == SUCCESS)) [
      | inl done ↦ rw done (
          elim (cases_Bool (is_write reply.kind)) [
            | inl writes ↦ rw writes tt
            | inr reads ↦ rw reads is.values
          ]
          )
      | inr failed ↦ rw failed (code_fits reply.kind reply.code reply.count (length reply.values) is.form, is.count)
    ]

replies_fit : (replies : List Reply) → AreReplies replies → AllByRecursion AnswerFits (map answer_of replies)
replies_fit [] are = tt
replies_fit (reply ∷ replies) are = (answer_fits reply are.0, replies_fit replies are.1)

pub joined_fit : (body words : List ℕ) (list : List Answer) → IsJoined body words list → AllByRecursion AnswerFits list
unfolding AnswerFits
joined_fit body words list joined =
    subst (AllByRecursion AnswerFits) (sym joined.1)
    (AllByRecursion-append AnswerFits (map answer_of joined.0.replies) _ (replies_fit joined.0.replies joined.0.items)
    (AllByRecursion-replicate AnswerFits _ answer.Skipped tt))

answers_fit : Joins → (body words : List ℕ) (found : Option (List Answer)) → AreWords body → AreWords words
    → answers body words ≡ found → IfSome found (AllByRecursion AnswerFits)
answers_fit joins body words None fits fit is = tt
answers_fit joins body words (Some list) fits fit is =
    joined_fit body words list ((joins body words list fits fit).1 is)

told_by_fits : (found : Option (List Answer)) → IfSome found (AllByRecursion AnswerFits) → ToldFits (told_by found)
unfolding ToldFits
told_by_fits None fits = tt
told_by_fits (Some list) fits = fits

told_timed_out_fits : Joins → (body : List ℕ) (rounds : ℕ) (late : Option (List ℕ)) → AreWords body → IsByte rounds
    → HasWordsLate late → ToldFits (told_timed_out body rounds late)
unfolding ToldFits
told_timed_out_fits joins body rounds None fits fit late_fits = fit
told_timed_out_fits joins body rounds (Some words) fits fit late_fits =
    (fit, answers_fit joins body words (answers body words) fits late_fits refl)

told_fits : Joins → (body : List ℕ) (outcome : Outcome) (late : Option (List ℕ)) → AreWords body → IsInRange outcome
    → HasWordsLate late → EndFits (end_of body outcome late)
unfolding PlaceFits ToldFits
told_fits joins body (became.Replied place words) late fits fit late_fits = record {
  place' = fit.0;
  told' = told_by_fits (answers body words) (answers_fit joins body words (answers body words) fits fit.1 refl);
}
told_fits joins body (became.TimedOut place rounds) late fits fit late_fits =
    record { place' = fit.0; told' = told_timed_out_fits joins body rounds late fits fit.1 late_fits }
told_fits joins body became.Unsent late fits fit late_fits = record { place' = tt; told' = tt }
told_fits joins body (became.LinkLost None) late fits fit late_fits = record { place' = tt; told' = tt }
told_fits joins body (became.LinkLost (Some place)) late fits fit late_fits = record { place' = fit; told' = tt }

-- the first late answer, and those behind it
late_first : (lates : List (Option (List ℕ))) → AllByRecursion HasWordsLate lates → HasWordsLate (get_or lates 0 None)
late_first [] fits = tt
late_first (late ∷ lates) fits = fits.0

late_others : (lates : List (Option (List ℕ))) → AllByRecursion HasWordsLate lates
    → AllByRecursion HasWordsLate (drop 1 lates)
late_others [] fits = tt
late_others (late ∷ lates) fits = fits.1

ends_fit : Joins → (bodies : List (List ℕ)) (outcomes : List Outcome) (lates : List (Option (List ℕ)))
    → AllByRecursion AreWords bodies → AllByRecursion IsInRange outcomes → AllByRecursion HasWordsLate lates
    → AllByRecursion EndFits (ends_with bodies outcomes lates)
ends_fit joins [] outcomes lates fits fit late_fits = tt
ends_fit joins (body ∷ bodies) [] lates fits fit late_fits = tt
ends_fit joins (body ∷ bodies) (outcome ∷ outcomes) lates fits fit late_fits = (
  told_fits joins body outcome (get_or lates 0 None) fits.0 fit.0 (late_first lates late_fits),
  ends_fit joins bodies outcomes (drop 1 lates) fits.1 fit.1 (late_others lates late_fits),
)

-- ---- pieces

answered_fits : (list : List Answer) (index : ℕ) (one : Option Answer) → AllByRecursion AnswerFits list
    → slice_get list index ≡ one → IsPrinted (answer_result one)
unfolding AnswerFits
answered_fits list index None all at = tt
answered_fits list index (Some (answer.Values words)) all at = all_at AnswerFits list index (answer.Values words) at all
answered_fits list index (Some answer.Done) all at = tt
answered_fits list index (Some (answer.Fault code after)) all at = all_at AnswerFits list index
    (answer.Fault code after) at all
answered_fits list index (Some answer.Skipped) all at = tt

late_of_fits : (r : OpResult) → IsPrinted r → IsPrintedLate (late_of r)
late_of_fits (Value words) fits = fits
late_of_fits Done fits = tt
late_of_fits (Was word) fits = fits
late_of_fits (Error code after) fits = fits
late_of_fits Skipped fits = tt
late_of_fits other fits = tt

late_at_fits : (list : Option (List Answer)) (index : ℕ) → IfSome list (AllByRecursion AnswerFits)
    → IsPrintedLate (late_at list index)
late_at_fits None index fits = tt
late_at_fits (Some list) index fits =
    late_of_fits (answer_result (slice_get list index)) (answered_fits list index (slice_get list index) fits refl)

told_at_fits : (what : Told) (index : ℕ) → ToldFits what → IsPrinted (told_at what index)
unfolding ToldFits
told_at_fits (told.Answered list) index fits = answered_fits list index (slice_get list index) fits refl
told_at_fits told.Garbled index fits = tt
told_at_fits (told.TimedOut rounds) index fits = fits
told_at_fits (told.Late rounds list) index fits = (fits.0, late_at_fits list index fits.1)
told_at_fits told.Unsent index fits = tt
told_at_fits told.LinkLost index fits = tt

module _ (ends : List BodyEnd) (fit : AllByRecursion EndFits ends) where
  result_fits : (piece : PieceAt) (found : Option BodyEnd) → slice_get ends piece.body ≡ found
      → IsPrinted (result_in found piece.index)
  result_fits piece None at = tt
  result_fits piece (Some end) at = told_at_fits end.told piece.index (all_at EndFits ends piece.body end at fit).told'

  results_fit : (pieces : List PieceAt) → AllByRecursion IsPrinted (map (piece_result ends) pieces)
  results_fit [] = tt
  results_fit (piece ∷ pieces) = (result_fits piece (slice_get ends piece.body) refl, results_fit pieces)

  one_place : (place : Option ℕ) (index : ℕ) → PlaceFits place → index < 2 ^ 12
      → AllByRecursion IsPrintedPlace (place_at place index)
  unfolding PlaceFits
  one_place None index fits low = tt
  one_place (Some place) index fits low = ((fits, omega arith), tt)

  place_fits : (piece : PieceAt) (found : Option BodyEnd) → slice_get ends piece.body ≡ found → IsWithinBody piece
      → AllByRecursion IsPrintedPlace (place_in found piece.index)
  place_fits piece None at low = tt
  place_fits piece (Some end) at low = one_place end.place piece.index
      (all_at EndFits ends piece.body end at fit).place' low

  places_fit : (pieces : List PieceAt) → AllByRecursion IsWithinBody pieces
      → AllByRecursion IsPrintedPlace (op_places ends pieces)
  places_fit [] low = tt
  places_fit (piece ∷ pieces) low =
      AllByRecursion-append IsPrintedPlace (piece_place ends piece) (op_places ends pieces)
      (place_fits piece (slice_get ends piece.body) refl low.0) (places_fit pieces low.1)

-- ---- operations

field_fits : (word mask : ℕ) → IsWord word → IsWord (field word mask)
field_fits word mask fits = omega (arith, and_le_l word mask, div-le_self (bit_and word mask) (2 ^ shift mask))

fields_fit : (words : List ℕ) (mask : ℕ) → AreWords words → AreWords (map (λ word. field word mask) words)
fields_fit [] mask fits = tt
fields_fit (word ∷ words) mask fits = (field_fits word mask fits.0, fields_fit words mask fits.1)

before_fits : (words : List ℕ) → AreWords words → IsPrinted (word_before words)
before_fits [] fits = tt
before_fits (word ∷ words) fits = fits.0

shown_fits : (verb : Verb) (mask : ℕ) (words : List ℕ) → AreWords words → IsPrinted (shown_result verb mask words)
shown_fits Read mask words fits = fields_fit words mask fits
shown_fits Write mask words fits = tt
shown_fits ReadBlock mask words fits = fits
shown_fits WriteBlock mask words fits = tt
shown_fits RmwBits mask words fits = before_fits words fits
shown_fits RmwSum mask words fits = before_fits words fits

pub values_fit : (r : OpResult) → IsPrinted r → AreWords (values_in r)
values_fit (Value words) fits = fits
values_fit Done fits = tt
values_fit (Was word) fits = (fits, tt)
values_fit (Error code after) fits = tt
values_fit Skipped fits = tt
values_fit (TimedOut rounds) fits = tt
values_fit (Late rounds answer) fits = tt
values_fit Unsent fits = tt
values_fit LinkLost fits = tt
values_fit Garbled fits = tt
values_fit (Denied rule) fits = tt

all_values_fit : (results : List OpResult) → AllByRecursion IsPrinted results → AreWords (flat_map values_in results)
all_values_fit [] fits = tt
all_values_fit (r ∷ rs) fits =
    AllByRecursion-append IsWord (values_in r) (flat_map values_in rs) (values_fit r fits.0) (all_values_fit rs fits.1)

shown_late_fits : (verb : Verb) (mask : ℕ) (answer' : LateAnswer) → IsPrintedLate answer'
    → IsPrintedLate (shown_late verb mask answer')
shown_late_fits verb mask (late_answer.Value words) fits =
    late_of_fits (shown_result verb mask words) (shown_fits verb mask words fits)
shown_late_fits verb mask late_answer.Done fits = late_of_fits (shown_result verb mask []) (shown_fits verb mask [] tt)
shown_late_fits verb mask other fits = fits

shown_fault_fits : (verb : Verb) (mask : ℕ) (fault : OpResult) → IsPrinted fault
    → IsPrinted (shown_not_done verb mask fault)
shown_fault_fits verb mask (Late rounds answer') fits = (fits.0, shown_late_fits verb mask answer' fits.1)
shown_fault_fits verb mask other fits = fits

or_fault : (verb : Verb) (mask : ℕ) (results : List OpResult) (other : OpResult) → AllByRecursion IsPrinted results
    → IsPrinted other → IsPrinted (unwrap_or (option_map (shown_not_done verb mask) (first_not_done results)) other)
or_fault verb mask [] other all fits = fits
or_fault verb mask (r ∷ rs) other all fits =
    elim (cases_Bool (is_good r)) [
      | inl good ↦ rw good (or_fault verb mask rs other all.1 fits)
      | inr failed ↦ rw failed (shown_fault_fits verb mask r all.0)
    ]

ShowingFits : Showing → Type 0
ShowingFits shows = IsPrinted shows.0 × AllByRecursion IsPrintedPlace shows.1

module _ (joins : Joins) where
  by_pieces_fits : (part : ClientPart) (op : RegOp) (k : ℕ) (found : Option (List PieceAt)) → IsPartInRange part
      → slice_get part.planned.pieces k ≡ found → ShowingFits (by_pieces part op found)
  unfolding ShowingFits
  by_pieces_fits part op k None fits at = (tt, tt)
  by_pieces_fits part op k (Some pieces) fits at =
      let ends = ends_fit joins part.planned.bodies part.outcomes part.lates fits.bodies' fits.outcomes' fits.lates' in
      let results = results_fit (ends_of part) ends pieces in (
        or_fault op.verb op.mask (map (piece_result (ends_of part)) pieces) _ results
            (shown_fits op.verb op.mask _ (all_values_fit (map (piece_result (ends_of part)) pieces) results)),
        places_fit (ends_of part) ends pieces (all_at (AllByRecursion IsWithinBody) part.planned.pieces k pieces at
            fits.within'),
      )

  in_part_fits : (parts : List ClientPart) (client k : ℕ) (op : RegOp) (found : Option ClientPart)
      → AllByRecursion IsPartInRange parts → slice_get parts client ≡ found → ShowingFits (in_part found k op)
  unfolding ShowingFits
  in_part_fits parts client k op None fits at = (tt, tt)
  in_part_fits parts client k op (Some part) fits at =
      by_pieces_fits part op k (slice_get part.planned.pieces k) (all_at IsPartInRange parts client part at fits) refl

  showing_fits : (name : List ℕ) (greeting : Greeting) (parts : List ClientPart) (client k : ℕ) (op : RegOp)
      → AllByRecursion IsPartInRange parts
      → ShowingFits (showing (record { name = name; greeting = greeting; parts = parts }) client k op)
  unfolding ShowingFits
  showing_fits name (Live payload) parts client k op fits = in_part_fits parts client k op (slice_get parts client) fits
      refl
  showing_fits name Silent parts client k op fits = (tt, tt)
  showing_fits name Down parts client k op fits = (tt, tt)

  ask_fits : (run : BoardRun) (client : ℕ) (before : List Asked) (op : RegOp) (denied : Option ℕ)
      → AllByRecursion IsPartInRange run.parts → IfSome denied (λ rule. rule < 2 ^ 32)
      → ShowingFits (shown_behind run client before op denied)
  unfolding ShowingFits
  ask_fits run client before op None fits low = showing_fits run.name run.greeting run.parts client _ op fits
  ask_fits run client before op (Some rule) fits low = (low, tt)

  line_fits : (runs : List BoardRun) (client : ℕ) (before : List Asked) (ask : Asked) (found : Option BoardRun)
      → AllByRecursion IsRunInRange runs → CanBeTold ask → length before + 1 < 2 ^ 32
      → slice_get runs ask.op.board ≡ found
      → AllByRecursion IsPrintedLine (option_to_list (option_map (line_of client before ask) found))
  unfolding ShowingFits
  line_fits runs client before ask None fits can few at = tt
  line_fits runs client before ask (Some run) fits can few at =
      let in_range = all_at IsRunInRange runs ask.op.board run at fits in
      let shows = ask_fits run client before ask.op ask.denied in_range.parts' can.rule' in (
        record { number' = few; board' = in_range.name'; name' = can.name'; result' = shows.0; places' = shows.1 },
        tt,
      )

  lines_fit : (runs : List BoardRun) (client : ℕ) (before asks : List Asked) → AllByRecursion IsRunInRange runs
      → AllByRecursion CanBeTold asks → length before + length asks < 2 ^ 32
      → AllByRecursion IsPrintedLine (lines_behind runs client before asks)
  lines_fit runs client before [] fits can few = tt
  lines_fit runs client before (ask ∷ asks) fits can few =
      AllByRecursion-append IsPrintedLine _ (lines_behind runs client (before ++ ask ∷ []) asks)
      (line_fits runs client before ask (slice_get runs ask.op.board) fits can.0 (omega arith) refl)
      (lines_fit runs client (before ++ ask ∷ []) asks fits can.1 (omega (arith, length-append before (ask ∷ []))))

  pub client_lines_fit : (runs : List BoardRun) (client : ℕ) (steps : List Step) → AllByRecursion IsRunInRange runs
      → AllByRecursion CanBeTold (asked_operations steps) → length (asked_operations steps) < 2 ^ 32
      → AllByRecursion IsPrintedLine (client_lines runs client steps)
  client_lines_fit runs client steps fits can few = lines_fit runs client [] (asked_operations steps) fits can (omega arith)
