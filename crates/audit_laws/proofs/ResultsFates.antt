-- Lines of operations of one piece each tell the same of the body that these stand in.
use Rattle.std.proofs.Common.{◌≡◌, ℕ, List, [], ◌∷◌, Option, Some, None, refl, ap, ◌∙◌}
use Rattle.std.specs.Prelude.{unwrap_or}
use Rattle.std.specs.List.{slice_get}
use Rattle.reply_join.specs.declared.answer.Answer.{Answer}
use Rattle.reply_join.specs.declared.answer.Answer.TheVariants as answer
use Rattle.script_steps.specs.declared.operation.RegOp.{RegOp}
use Rattle.script_steps.specs.declared.operation.Verb.{Verb}
use Rattle.script_steps.specs.declared.operation.Verb.TheVariants as verb
use Rattle.script_plans.specs.declared.board_run.BoardRun.{BoardRun}
use Rattle.script_plans.specs.declared.board_run.ClientPart.{ClientPart}
use Rattle.script_plans.specs.declared.greeting.Greeting.{Greeting}
use Rattle.script_plans.specs.declared.greeting.Greeting.TheVariants.{Live, Silent, Down}
use Rattle.script_plans.specs.declared.planned.PieceAt.{PieceAt}
use Rattle.transcript.specs.declared.body_end.BodyEnd.{BodyEnd}
use Rattle.transcript.specs.declared.body_end.Told.{Told}
use Rattle.transcript.specs.declared.body_end.Told.TheVariants as told
use Rattle.transcript.specs.Ends.{answer_result, ends_of, told_at}
use Rattle.transcript.specs.Ends.{result_in as ended_in}
use Rattle.transcript.specs.Lines.{by_pieces, in_part, showing}
use Rattle.transcript.specs.Results.{combined_result, shown_result, word_before}
use Rattle.run_audit.specs.declared.fate.Fate.{Fate}
use Rattle.run_audit.specs.declared.fate.Fate.TheVariants as fate
use Rattle.run_audit.specs.Results.{fate_in}

-- ---- of a body

-- what the end of a body tells of it
abbrev pub fate_told : Told → Fate
fate_told (told.Answered list) = fate.Answered
fate_told told.Garbled = fate.Answered
fate_told (told.TimedOut rounds) = fate.TimedOut
fate_told (told.Late rounds list) = fate.AnsweredLate
fate_told told.Unsent = fate.Unsent
fate_told told.LinkLost = fate.LinkLost

-- a body without an end was not sent
abbrev pub fate_ended : Option BodyEnd → Fate
fate_ended None = fate.Unsent
fate_ended (Some end) = fate_told end.told

-- of a client, and of a board that may not be live
abbrev pub fate_for : Option ClientPart → ℕ → Fate
fate_for None body = fate.Unsent
fate_for (Some part) body = fate_ended (slice_get (ends_of part) body)

abbrev pub fate_by : Greeting → BoardRun → ℕ → ℕ → Fate
fate_by (Live payload) run client body = fate_for (slice_get run.parts client) body
fate_by Silent run client body = fate.Unsent
fate_by Down run client body = fate.LinkLost

abbrev pub fate_on : BoardRun → ℕ → ℕ → Fate
fate_on run client body = fate_by run.greeting run client body

-- ---- of the one piece of an operation

word_fate : (words : List ℕ) → fate_in (word_before words) ≡ fate.Answered
word_fate [] = refl
word_fate (word ∷ words) = refl

shown_fate : (verb' : Verb) (mask : ℕ) (words : List ℕ) → fate_in (shown_result verb' mask words) ≡ fate.Answered
shown_fate verb.Read mask words = refl
shown_fate verb.Write mask words = refl
shown_fate verb.ReadBlock mask words = refl
shown_fate verb.WriteBlock mask words = refl
shown_fate verb.RmwBits mask words = word_fate words
shown_fate verb.RmwSum mask words = word_fate words

answered_fate : (verb' : Verb) (mask : ℕ) (one : Option Answer)
    → fate_in (combined_result verb' mask (answer_result one ∷ [])) ≡ fate.Answered
answered_fate verb' mask None = refl
answered_fate verb' mask (Some (answer.Values words)) = shown_fate verb' mask _
answered_fate verb' mask (Some answer.Done) = shown_fate verb' mask _
answered_fate verb' mask (Some (answer.Fault code after)) = refl
answered_fate verb' mask (Some answer.Skipped) = refl

told_fate : (verb' : Verb) (mask : ℕ) (one : Told) (index : ℕ)
    → fate_in (combined_result verb' mask (told_at one index ∷ [])) ≡ fate_told one
told_fate verb' mask (told.Answered list) index = answered_fate verb' mask (slice_get list index)
told_fate verb' mask told.Garbled index = refl
told_fate verb' mask (told.TimedOut rounds) index = refl
told_fate verb' mask (told.Late rounds list) index = refl
told_fate verb' mask told.Unsent index = refl
told_fate verb' mask told.LinkLost index = refl

ended_fate : (verb' : Verb) (mask : ℕ) (end : Option BodyEnd) (index : ℕ)
    → fate_in (combined_result verb' mask (ended_in end index ∷ [])) ≡ fate_ended end
ended_fate verb' mask None index = refl
ended_fate verb' mask (Some end) index = told_fate verb' mask end.told index

-- ---- of its line

pieces_fate : (part : ClientPart) (op : RegOp) (body index : ℕ) (found : Option (List PieceAt))
    → unwrap_or found [] ≡ record { body = body; index = index } ∷ []
    → fate_in (by_pieces part op found).0 ≡ fate_ended (slice_get (ends_of part) body)
pieces_fate part op body index None is = absurd cc
pieces_fate part op body index (Some pieces) is =
    ap (λ (ps : List PieceAt). fate_in (by_pieces part op (Some ps)).0) is
    ∙ ended_fate op.verb op.mask (slice_get (ends_of part) body) index

part_fate : (found : Option ClientPart) (k : ℕ) (op : RegOp) (body index : ℕ)
    → ((part : ClientPart) → found ≡ Some part
    → unwrap_or (slice_get part.planned.pieces k) [] ≡ record { body = body; index = index } ∷ [])
    → fate_in (in_part found k op).0 ≡ fate_for found body
part_fate None k op body index is = refl
part_fate (Some part) k op body index is =
    pieces_fate part op body index (slice_get part.planned.pieces k) (is part refl)

greeted_fate : (run : BoardRun) (client k : ℕ) (op : RegOp) (body index : ℕ) (greeting : Greeting)
    → run.greeting ≡ greeting
    → ((part : ClientPart) (payload : ℕ) → run.greeting ≡ Live payload → slice_get run.parts client ≡ Some part
    → unwrap_or (slice_get part.planned.pieces k) [] ≡ record { body = body; index = index } ∷ [])
    → fate_in (showing run client k op).0 ≡ fate_by greeting run client body
greeted_fate run client k op body index (Live payload) greeted is =
    rw greeted (part_fate (slice_get run.parts client) k op body index (λ part at. is part payload greeted at))
greeted_fate run client k op body index Silent greeted is = rw greeted refl
greeted_fate run client k op body index Down greeted is = rw greeted refl

-- What the line of an operation of one piece tells is what is told of the body of this piece.
pub showing_fate : (run : BoardRun) (client k : ℕ) (op : RegOp) (body index : ℕ)
    → ((part : ClientPart) (payload : ℕ) → run.greeting ≡ Live payload → slice_get run.parts client ≡ Some part
    → unwrap_or (slice_get part.planned.pieces k) [] ≡ record { body = body; index = index } ∷ [])
    → fate_in (showing run client k op).0 ≡ fate_on run client body
showing_fate run client k op body index is = greeted_fate run client k op body index run.greeting refl is
