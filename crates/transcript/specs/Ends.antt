-- What a body's outcome and its late answer tell of its transactions. IPbus 2.0, transactions; outcomes and late
-- answers are the profile's.
use Rattle.std.specs.Prelude.{ℕ, ◌+◌, List, [], ◌∷◌, drop, get_or, slice_get, Option, Some, None, option_and_then}
use Rattle.reply_join.specs.declared.answer.Answer.{Answer}
use Rattle.reply_join.specs.declared.answer.Answer.TheVariants as answer
use Rattle.reply_join.specs.ByWords.{answers}
use Rattle.lane_record.specs.declared.outcome.Outcome.{Outcome}
use Rattle.lane_record.specs.declared.outcome.Outcome.TheVariants as became
use Rattle.lane_record.specs.Outcomes.{place_of}
use Rattle.script_plans.specs.declared.planned.PieceAt.{PieceAt}
use Rattle.transcript.specs.declared.body_end.Told.{Told}
use Rattle.transcript.specs.declared.body_end.Told.TheVariants as told
use Rattle.transcript.specs.declared.body_end.BodyEnd.{BodyEnd}
use Rattle.script_plans.specs.declared.board_run.ClientPart.{ClientPart}
use Rattle.transcript.specs.declared.line.LateAnswer.{LateAnswer}
use Rattle.transcript.specs.declared.line.LateAnswer.TheVariants as late_answer
use Rattle.transcript.specs.declared.line.OpResult.{OpResult}
use Rattle.transcript.specs.declared.line.OpResult.TheVariants.{Value, Done, Was, Error, Skipped, TimedOut, Late}
use Rattle.transcript.specs.declared.line.OpResult.TheVariants.{Unsent, LinkLost, Garbled}

-- what words tell that are a reply with these answers, or none
abbrev pub told_by : Option (List Answer) → Told
told_by (Some list) = told.Answered list
told_by None = told.Garbled

-- what is told of a body that was timed out, by its late answer
abbrev pub told_timed_out : List ℕ → ℕ → Option (List ℕ) → Told
told_timed_out body rounds None = told.TimedOut rounds
told_timed_out body rounds (Some words) = told.Late rounds (answers body words)

-- The words of a reply tell the answer to each transaction, and so do those of a late answer. The other outcomes tell
-- the same of all. A late answer counts only where the body was timed out.
abbrev pub told_of : List ℕ → Outcome → Option (List ℕ) → Told
told_of body (became.Replied place words) late = told_by (answers body words)
told_of body (became.TimedOut place rounds) late = told_timed_out body rounds late
told_of body became.Unsent late = told.Unsent
told_of body (became.LinkLost place) late = told.LinkLost

-- how a body ended that has this outcome and this late answer
abbrev pub end_of : List ℕ → Outcome → Option (List ℕ) → BodyEnd
end_of body outcome late = record { place = place_of outcome; told = told_of body outcome late }

-- how bodies ended, by their outcomes and late answers in the same order; those behind the last late answer have none:
-- each by those of its own number (`each_body_ends_by_its_own_late_answer`)
abbrev pub ends_with : List (List ℕ) → List Outcome → List (Option (List ℕ)) → List BodyEnd
ends_with [] outcomes lates = []
ends_with (body ∷ bodies) [] lates = []
ends_with (body ∷ bodies) (outcome ∷ outcomes) lates =
    end_of body outcome (get_or lates 0 None) ∷ ends_with bodies outcomes (drop 1 lates)

-- how the bodies of a client on a board ended
abbrev pub ends_of : ClientPart → List BodyEnd
ends_of part = ends_with part.planned.bodies part.outcomes part.lates

-- ---- of one piece

abbrev pub answer_result : Option Answer → OpResult
answer_result (Some (answer.Values words)) = Value words
answer_result (Some answer.Done) = Done
answer_result (Some (answer.Fault code after)) = Error code after
answer_result (Some answer.Skipped) = Skipped
answer_result None = Garbled

-- what a result is as a late answer; no transaction is answered by the others
abbrev pub late_of : OpResult → LateAnswer
late_of (Value words) = late_answer.Value words
late_of Done = late_answer.Done
late_of (Was word) = late_answer.Was word
late_of (Error code after) = late_answer.Error code after
late_of Skipped = late_answer.Skipped
late_of other = late_answer.Garbled

-- the late answer to the transaction of a number from 0
abbrev pub late_at : Option (List Answer) → ℕ → LateAnswer
late_at list index = late_of (answer_result (option_and_then (λ answers. slice_get answers index) list))

-- what is told of the transaction of a number from 0
abbrev pub told_at : Told → ℕ → OpResult
told_at (told.Answered list) index = answer_result (slice_get list index)
told_at told.Garbled index = Garbled
told_at (told.TimedOut rounds) index = TimedOut rounds
told_at (told.Late rounds list) index = Late rounds (late_at list index)
told_at told.Unsent index = Unsent
told_at told.LinkLost index = LinkLost

-- what a piece came to; a body without an outcome was not sent
abbrev pub result_in : Option BodyEnd → ℕ → OpResult
result_in (Some end) index = told_at end.told index
result_in None index = Unsent

abbrev pub piece_result : List BodyEnd → PieceAt → OpResult
piece_result ends piece = result_in (slice_get ends piece.body) piece.index

-- the place of a body, and the number of a transaction in it, from 1
abbrev pub place_at : Option ℕ → ℕ → List (ℕ × ℕ)
place_at (Some place) index = (place, index + 1) ∷ []
place_at None index = []

abbrev pub place_in : Option BodyEnd → ℕ → List (ℕ × ℕ)
place_in (Some end) index = place_at end.place index
place_in None index = []

-- the place of a piece, by that of its body; none where the body has none
abbrev pub piece_place : List BodyEnd → PieceAt → List (ℕ × ℕ)
piece_place ends piece = place_in (slice_get ends piece.body) piece.index
