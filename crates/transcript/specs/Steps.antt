-- How the steps of the calls work together: what private functions promise one another. No public clause speaks of
-- these.
use Rattle.std.specs.Prelude.{◌≡◌, ℕ, ◌+◌, ◌≤◌, ◌<◌, Bool, if◌then◌else◌, List, [], ◌++◌, length, take, drop, slice_get}
use Rattle.std.specs.Prelude.{slice_set, slice_index, Option, Some, None}
use Rattle.std.specs.Option.{option_map_or}
use Rattle.script_steps.specs.declared.operation.RegOp.{RegOp}
use Rattle.script_steps.specs.declared.operation.Step.{Step}
use Rattle.script_steps.specs.Rulings.{asked_operations, allowed_operations}
use Rattle.script_steps.specs.declared.operation.Verb.{Verb}
use Rattle.lane_record.specs.declared.outcome.Outcome.{Outcome}
use Rattle.transcript.specs.declared.body_end.BodyEnd.{BodyEnd}
use Rattle.script_plans.specs.declared.board_run.BoardRun.{BoardRun}
use Rattle.transcript.specs.declared.line.OpResult.{OpResult}
use Rattle.transcript.specs.declared.line.OpResult.TheVariants as result
use Rattle.transcript.specs.declared.line.OpLine.{OpLine}
use Rattle.transcript.specs.declared.boards.Kind.{Kind}
use Rattle.transcript.specs.declared.boards.Kind.TheVariants as kind
use Rattle.script_plans.specs.Plan.{count_on}
use Rattle.transcript.specs.Ends.{ends_of}
use Rattle.transcript.specs.Results.{is_good}
use Rattle.lane_record.specs.Outcomes.{is_sent, is_replied, is_timed_out}
use Rattle.transcript.specs.Lines.{showing, denied_by, line_with, lines_behind, client_lines, is_lost}

-- what a piece came to, where it was not done in time
abbrev pub not_done_in : OpResult → Option OpResult
not_done_in r = if is_good r then None else Some r

-- this, or else the value of the words
abbrev pub or_value : Option OpResult → List ℕ → OpResult
or_value (Some told) words = told
or_value None words = result.Value words

-- the line of an operation that was never sent
abbrev pub unsent_line : ℕ → Verb → List ℕ → List ℕ → OpLine
unsent_line number verb board name =
    record { number = number; verb = verb; board = board; name = name; result = result.Unsent; places = [] }

-- how a client's bodies on a board ended
abbrev pub ends_on : ℕ → BoardRun → List BodyEnd
ends_on client run = option_map_or ends_of (slice_get run.parts client) []

-- line `number` of a client, operation `k`, from 0, of those on its board
abbrev pub line_on : ℕ → ℕ → ℕ → RegOp → BoardRun → OpLine
line_on client number k op run = line_with number op run.name (showing run client k op)

-- line `number` of a client, of an operation that this rule denies
abbrev pub denied_line : ℕ → RegOp → ℕ → BoardRun → OpLine
denied_line number op rule run = line_with number op run.name (denied_by rule)

-- one more at a place that is there
abbrev pub one_more_at : ℕ → List ℕ → List ℕ
one_more_at at counts = slice_set counts at (slice_index counts at + 1)

abbrev pub AreBelow : ℕ → List ℕ → Type 0
AreBelow most counts = (b : ℕ) → slice_index counts b ≤ most

-- where a client's first `i` steps have these lines, so many operations, and so many on each board that are not denied
pub record IsProgress (runs : List BoardRun) (client : ℕ) (steps : List Step) (i : ℕ) (made : List OpLine) (number : ℕ)
    (counts : List ℕ) : Type 0 where
  pub lines : made ++ lines_behind runs client (asked_operations (take i steps)) (asked_operations (drop i steps))
      ≡ client_lines runs client steps
  pub operations' : number ≡ length (asked_operations (take i steps))
  pub boards : length counts ≡ length runs
  pub counts' : (b : ℕ) → b < length runs → slice_index counts b ≡ count_on b (allowed_operations (asked_operations (take i steps)))

abbrev pub is_of : Kind → Outcome → Bool
is_of kind.Sent outcome = is_sent outcome
is_of kind.Replied outcome = is_replied outcome
is_of kind.TimedOut outcome = is_timed_out outcome
is_of kind.Lost outcome = is_lost outcome
