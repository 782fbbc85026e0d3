-- What a line can show of one piece, by the outcome of its body.
use Rattle.std.proofs.Common.{◌≡◌, ◌≢◌, ◌⊎◌, ℕ, zero, suc, ◌+◌, ◌<◌, ◌^◌, false, true, length, List, [], ◌∷◌}
use Rattle.std.proofs.Common.{Option, Some, None, refl, sym, ◌∙◌, subst, inl, inr, arith, get_or}
use Rattle.std.specs.List.{AllByRecursion, slice_get}
use Rattle.std.proofs.lemmas.Option.{slice_get_cases, slice_get_within}
use Rattle.ipb_base.specs.Word.{AreWords}
use Rattle.transaction_codec.specs.declared.request.Op.{Op}
use Rattle.transaction_codec.specs.declared.request.Op.TheVariants as ops
use Rattle.transaction_codec.specs.declared.request.Request.{Request}
use Rattle.transaction_codec.specs.Header.{is_write}
use Rattle.transaction_codec.specs.Request.{AreRequests, op_count, op_kind, requests_words}
use Rattle.transaction_codec.specs.Answer.{Fails, values_done}
use Rattle.mtu_packer.proofs.Sizes.{requests_are_words}
use Rattle.reply_join.specs.declared.answer.Answer.{Answer}
use Rattle.reply_join.specs.declared.answer.Answer.TheVariants as answer
use Rattle.reply_join.specs.Joining.{IsAnswerTo, IsJoined}
use Rattle.reply_join.specs.ByWords.{answers}
use Rattle.lane_record.specs.declared.outcome.Outcome.{Outcome}
use Rattle.lane_record.specs.declared.outcome.Outcome.TheVariants as became
use Rattle.lane_record.specs.Outcomes.{place_of}
use Rattle.script_plans.specs.declared.planned.PieceAt.{PieceAt}
use Rattle.script_plans.specs.declared.board_run.ClientPart.{ClientPart}
use Rattle.transcript.specs.declared.body_end.BodyEnd.{BodyEnd}
use Rattle.transcript.specs.declared.line.LateAnswer.{LateAnswer}
use Rattle.transcript.specs.declared.line.LateAnswer.TheVariants as late_answer
use Rattle.transcript.specs.declared.line.OpResult.{OpResult}
use Rattle.transcript.specs.declared.line.OpResult.TheVariants.{Value, Done, Was, Error, Skipped, TimedOut, Late}
use Rattle.transcript.specs.declared.line.OpResult.TheVariants.{Unsent, LinkLost, Garbled, Denied}
use Rattle.transcript.specs.Claims.{HasWordsLate, IsInRange, IsPrinted, IsPrintedLate, IsPrintedPlace}
use Rattle.transcript.specs.Ends.{answer_result, end_of, ends_of, late_at, late_of, piece_place, piece_result, place_at}
use Rattle.transcript.specs.Ends.{place_in, result_in, told_at, told_by, told_of}
use Rattle.transcript.proofs.EndsInOrder.{ends_at}
use Rattle.transcript.proofs.Printed.{AnswerFits, joined_fit}
use Rattle.transcript.proofs.Skipping.{Joins}
use Rattle.transcript_reader.specs.Results.{IsPlaceless}
use Rattle.board_history.proofs.Lists.{Both, all_at}
use Rattle.audit_laws.proofs.FormAsked.{IsRequested, low_index}

-- ---- what a piece comes to

abbrev pub CameLate : Op → LateAnswer → Type 0
CameLate one (late_answer.Value words) = length words ≡ values_done one
CameLate one late_answer.Done = values_done one ≡ 0
CameLate one (late_answer.Was word) = ⊥
CameLate one (late_answer.Error code after) = (carried : ℕ) × Fails one code after carried
CameLate one late_answer.Skipped = Unit {0}
CameLate one late_answer.Garbled = Unit {0}

abbrev pub CameTo : Op → OpResult → Type 0
CameTo one (Value words) = length words ≡ values_done one
CameTo one Done = values_done one ≡ 0
CameTo one (Was word) = ⊥
CameTo one (Error code after) = (carried : ℕ) × Fails one code after carried
CameTo one Skipped = Unit {0}
CameTo one (TimedOut rounds) = Unit {0}
CameTo one (Late rounds answer) = CameLate one answer
CameTo one Unsent = Unit {0}
CameTo one LinkLost = Unit {0}
CameTo one Garbled = Unit {0}
CameTo one (Denied rule) = ⊥

-- a piece without a place was never sent, or lost before it was; one with a place was sent
abbrev pub IsPlacedSo : OpResult → List (ℕ × ℕ) → Type 0
IsPlacedSo r places = ((places ≡ []) × IsPlaceless r)
    ⊎ ((place : ℕ × ℕ) × (places ≡ place ∷ []) × IsPrintedPlace place × (r ≢ Unsent))

pub record Shows (one : Op) (r : OpResult) (places : List (ℕ × ℕ)) : Type 0 where
  pub came : CameTo one r
  pub printed : IsPrinted r
  pub placed : IsPlacedSo r places

-- ---- answers

-- what is read is as much as is asked for, and what is written answers no words
read_count : (op : Op) → is_write (op_kind op) ≡ false → op_count op ≡ values_done op
read_count (ops.Read base count) is = refl
read_count (ops.ReadPort base count) is = refl
read_count (ops.Write base words) is = absurd cc
read_count (ops.WritePort base words) is = absurd cc
read_count (ops.RmwBits base and_term or_term) is = refl
read_count (ops.RmwSum base addend) is = refl

write_count : (op : Op) → is_write (op_kind op) ≡ true → values_done op ≡ 0
write_count (ops.Read base count) is = absurd cc
write_count (ops.ReadPort base count) is = absurd cc
write_count (ops.Write base words) is = refl
write_count (ops.WritePort base words) is = refl
write_count (ops.RmwBits base and_term or_term) is = absurd cc
write_count (ops.RmwSum base addend) is = absurd cc

-- what a late answer, or one in time, tells of the piece
pub record IsTold (one : Op) (r : OpResult) : Type 0 where
  pub came : CameTo one r
  pub late : CameLate one (late_of r)
  pub printed : IsPrinted r
  pub printed_late : IsPrintedLate (late_of r)
  pub other : r ≢ Unsent

answer_told : (tid : ℕ) (one : Op) (a : Answer) → IsAnswerTo (record { tid = tid; op = one }) a → AnswerFits a
    → IsTold one (answer_result (Some a))
unfolding AnswerFits
answer_told tid one (answer.Values words) is fits =
    let same = is.1 ∙ read_count one is.0 in
    record { came = same; late = same; printed = fits; printed_late = fits; other = λ e. absurd cc }
answer_told tid one answer.Done is fits =
    let none = write_count one is in
    record { came = none; late = none; printed = tt; printed_late = tt; other = λ e. absurd cc }
answer_told tid one (answer.Fault code after) is fits =
    record { came = is; late = is; printed = fits; printed_late = fits; other = λ e. absurd cc }
answer_told tid one answer.Skipped is fits =
    record { came = tt; late = tt; printed = tt; printed_late = tt; other = λ e. absurd cc }

garbled_told : (one : Op) → IsTold one Garbled
garbled_told one = record { came = tt; late = tt; printed = tt; printed_late = tt; other = λ e. absurd cc }

-- ---- what replies promise

abbrev pub EachIsThat : Type 0
EachIsThat = (body reply : List ℕ) (answers : List Answer) (requests : List Request) (i : ℕ) (request : Request)
    (one : Answer) → IsJoined body reply answers → AreRequests requests → body ≡ requests_words requests
    → slice_get requests i ≡ Some request → slice_get answers i ≡ Some one → IsAnswerTo request one

module _ (each_is : EachIsThat) (joins : Joins) (requests : List Request) (ranges : AreRequests requests)
    (one : Op) (index : ℕ) (at : slice_get requests index ≡ Some (record { tid = index; op = one })) where
  at_index : (words : List ℕ) (list : List Answer) → IsJoined (requests_words requests) words list
      → IsTold one (answer_result (slice_get list index))
  at_index words list joined =
      elim (slice_get_cases list index).1 [
        | inl (a, within, there, again) ↦
            rw there (answer_told index one a
            (each_is (requests_words requests) words list requests index (record { tid = index; op = one }) a joined
            ranges refl at there) (all_at AnswerFits list index a (joined_fit (requests_words requests) words list
            joined) there))
        | inr (past, none) ↦ rw none (garbled_told one)
      ]

  in_time : (words : List ℕ) (found : Option (List Answer)) → answers (requests_words requests) words ≡ found
      → AreWords words → IsTold one (told_at (told_by found) index)
  in_time words None is fits = garbled_told one
  in_time words (Some list) is fits =
      at_index words list ((joins (requests_words requests) words list (requests_are_words requests ranges) fits).1 is)

  in_late : (words : List ℕ) (found : Option (List Answer)) → answers (requests_words requests) words ≡ found
      → AreWords words → CameLate one (late_at found index) × IsPrintedLate (late_at found index)
  in_late words None is fits = (tt, tt)
  in_late words (Some list) is fits =
      let told = at_index words list
      ((joins (requests_words requests) words list (requests_are_words requests ranges) fits).1 is) in
      (told.late, told.printed_late)

  there : (place : ℕ) (r : OpResult) → place < 2 ^ 64 → index < 2 ^ 12 → r ≢ Unsent
      → IsPlacedSo r (place_at (Some place) index)
  there place r low few other = inr ((place, index + 1), refl, (low, omega arith), other)

  pub body_shows : (outcome : Outcome) (late : Option (List ℕ)) → index < 2 ^ 12 → IsInRange outcome
      → HasWordsLate late
      → Shows one (told_at (told_of (requests_words requests) outcome late) index) (place_at (place_of outcome) index)
  body_shows (became.Replied place words) late few fits late_fits =
      let told = in_time words (answers (requests_words requests) words) refl fits.1 in
      record { came = told.came; printed = told.printed; placed = there place _ fits.0 few told.other }
  body_shows (became.TimedOut place rounds) None few fits late_fits =
      record { came = tt; printed = fits.1; placed = there place _ fits.0 few (λ e. absurd cc) }
  body_shows (became.TimedOut place rounds) (Some words) few fits late_fits =
      let told = in_late words (answers (requests_words requests) words) refl late_fits in
      record { came = told.0; printed = (fits.1, told.1); placed = there place _ fits.0 few (λ e. absurd cc) }
  body_shows became.Unsent late few fits late_fits =
      record { came = tt; printed = tt; placed = inl (refl, inl refl) }
  body_shows (became.LinkLost None) late few fits late_fits =
      record { came = tt; printed = tt; placed = inl (refl, inr refl) }
  body_shows (became.LinkLost (Some place)) late few fits late_fits =
      record { came = tt; printed = tt; placed = there place _ fits few (λ e. absurd cc) }

-- ---- the pieces of an operation

-- each body of a client has an outcome, and outcomes and late answers have the ranges of their fields
pub record IsFitPart (part : ClientPart) : Type 0 where
  pub long : length part.outcomes ≡ length part.planned.bodies
  pub outcomes' : AllByRecursion IsInRange part.outcomes
  pub lates' : AllByRecursion HasWordsLate part.lates

late_fits : (lates : List (Option (List ℕ))) (k : ℕ) → AllByRecursion HasWordsLate lates
    → HasWordsLate (get_or lates k None)
late_fits [] k fits = tt
late_fits (late ∷ lates) zero fits = fits.0
late_fits (late ∷ lates) (suc k) fits = late_fits lates k fits.1

module _ (each_is : EachIsThat) (joins : Joins) (part : ClientPart) (fits : IsFitPart part) where
  piece_shows : (one : Op) (p : PieceAt) → IsRequested part.planned.bodies one p.body p.index
      → Shows one (piece_result (ends_of part) p) (piece_place (ends_of part) p)
  piece_shows one p asked =
      let words = requests_words asked.requests in
      elim (slice_get_cases part.outcomes p.body).1 [
        | inl (outcome, within, at, again) ↦
            (let late = get_or part.lates p.body None in
            let end : slice_get (ends_of part) p.body ≡ Some (end_of words outcome late) =
            ends_at part.planned.bodies part.outcomes part.lates p.body words outcome asked.there at in
            let shows = body_shows each_is joins asked.requests asked.ranges one p.index asked.at' outcome late
            (low_index part.planned.bodies one p.body p.index asked)
            (all_at IsInRange part.outcomes p.body outcome fits.outcomes' at)
            (late_fits part.lates p.body fits.lates') in
            subst (λ (e : Option BodyEnd). Shows one (result_in e p.index) (place_in e p.index)) (sym end) shows)
        | inr (past, none) ↦
            absurd (omega (
              arith,
              fits.long,
              slice_get_within part.planned.bodies p.body words asked.there,
            ))
      ]

  pub pieces_show : (ones : List Op) (pieces : List PieceAt)
      → Both (λ (one : Op) (p : PieceAt). IsRequested part.planned.bodies one p.body p.index) ones pieces
      → Both (λ (one : Op) (p : PieceAt). Shows one (piece_result (ends_of part) p) (piece_place (ends_of part) p))
      ones pieces
  pieces_show [] [] asked = tt
  pieces_show [] (p ∷ ps) asked = absurd asked
  pieces_show (one ∷ ones) [] asked = absurd asked
  pieces_show (one ∷ ones) (p ∷ ps) asked = (piece_shows one p asked.0, pieces_show ones ps asked.1)
