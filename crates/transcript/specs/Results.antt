-- What an operation came to, by what its pieces came to. Profile; uHAL for masked reads.
use Rattle.std.specs.Prelude.{ℕ, Bool, true, false, if◌then◌else◌, List, [], ◌∷◌, map, Option, Some, None}
use Rattle.std.specs.Prelude.{unwrap_or, option_map}
use Rattle.std.specs.List.{flat_map}
use Rattle.masked_fields.specs.Field.{field}
use Rattle.script_steps.specs.declared.operation.Verb.{Verb}
use Rattle.script_steps.specs.declared.operation.Verb.TheVariants.{Read, Write, ReadBlock, WriteBlock, RmwBits, RmwSum}
use Rattle.script_steps.specs.declared.operation.RegOp.{RegOp}
use Rattle.script_plans.specs.declared.planned.PieceAt.{PieceAt}
use Rattle.transcript.specs.declared.body_end.BodyEnd.{BodyEnd}
use Rattle.transcript.specs.declared.line.LateAnswer.{LateAnswer}
use Rattle.transcript.specs.declared.line.LateAnswer.TheVariants as late_answer
use Rattle.transcript.specs.declared.line.OpResult.{OpResult}
use Rattle.transcript.specs.declared.line.OpResult.TheVariants.{Value, Done, Was, Error, Skipped, TimedOut, Late}
use Rattle.transcript.specs.declared.line.OpResult.TheVariants.{Unsent, LinkLost, Garbled, Denied}
use Rattle.transcript.specs.Ends.{late_of, piece_result, piece_place}

-- it was executed without a fault, and answered in time
abbrev pub is_good : OpResult → Bool
is_good (Value words) = true
is_good Done = true
is_good (Was word) = true
is_good (Error code after) = false
is_good Skipped = false
is_good (TimedOut rounds) = false
is_good (Late rounds answer) = false
is_good Unsent = false
is_good LinkLost = false
is_good Garbled = false
is_good (Denied rule) = false

-- the first that was not done, or not in time
abbrev pub first_not_done : List OpResult → Option OpResult
first_not_done [] = None
first_not_done (r ∷ rs) = if is_good r then first_not_done rs else Some r

abbrev pub values_in : OpResult → List ℕ
values_in (Value words) = words
values_in Done = []
values_in (Was word) = word ∷ []
values_in (Error code after) = []
values_in Skipped = []
values_in (TimedOut rounds) = []
values_in (Late rounds answer) = []
values_in Unsent = []
values_in LinkLost = []
values_in Garbled = []
values_in (Denied rule) = []

-- the word before a read-modify-write
abbrev pub word_before : List ℕ → OpResult
word_before [] = Garbled
word_before (word ∷ words) = Was word

-- what an operation that was done shows of the words that its pieces gave; a masked read shows the field
abbrev pub shown_result : Verb → ℕ → List ℕ → OpResult
shown_result Read mask words = Value (map (λ word. field word mask) words)
shown_result Write mask words = Done
shown_result ReadBlock mask words = Value words
shown_result WriteBlock mask words = Done
shown_result RmwBits mask words = word_before words
shown_result RmwSum mask words = word_before words

-- what an operation shows of the late answer to one of its pieces: what it would show of this piece alone
abbrev pub shown_late : Verb → ℕ → LateAnswer → LateAnswer
shown_late verb mask (late_answer.Value words) = late_of (shown_result verb mask words)
shown_late verb mask late_answer.Done = late_of (shown_result verb mask [])
shown_late verb mask other = other

-- what it shows of a piece that was not done, or not in time
abbrev pub shown_not_done : Verb → ℕ → OpResult → OpResult
shown_not_done verb mask (Late rounds answer) = Late rounds (shown_late verb mask answer)
shown_not_done verb mask other = other

-- The first piece that was not done in time says what the operation came to. Where there is none it shows the
-- words of all of them.
abbrev pub combined_result : Verb → ℕ → List OpResult → OpResult
combined_result verb mask results =
    unwrap_or (option_map (shown_not_done verb mask) (first_not_done results))
    (shown_result verb mask (flat_map values_in results))

-- what an operation came to, and where it stands in its board's order
abbrev pub op_result : List BodyEnd → RegOp → List PieceAt → OpResult
op_result ends op pieces = combined_result op.verb op.mask (map (piece_result ends) pieces)

abbrev pub op_places : List BodyEnd → List PieceAt → List (ℕ × ℕ)
op_places ends pieces = flat_map (piece_place ends) pieces
