-- The lines of a run: a function of each client's steps, and of what became of each board. Profile.
use Rattle.std.specs.Prelude.{ℕ, ◌+◌, Bool, true, false, if◌then◌else◌, List, [], ◌∷◌, ◌++◌, length, map, count_by}
use Rattle.std.specs.Prelude.{slice_get, Option, Some, None, option_to_list, option_map}
use Rattle.std.specs.List.{list_all}
use Rattle.script_steps.specs.declared.operation.RegOp.{RegOp}
use Rattle.script_steps.specs.declared.operation.Step.{Step}
use Rattle.script_steps.specs.Rulings.{Asked, asked_operations, allowed_operations}
use Rattle.lane_record.specs.declared.outcome.Outcome.{Outcome}
use Rattle.lane_record.specs.declared.outcome.Outcome.TheVariants.{Replied, TimedOut, Unsent, LinkLost}
use Rattle.lane_record.specs.Outcomes.{is_sent, is_replied, is_timed_out}
use Rattle.script_plans.specs.declared.greeting.Greeting.TheVariants as greeting
use Rattle.script_plans.specs.declared.planned.PieceAt.{PieceAt}
use Rattle.script_plans.specs.declared.board_run.ClientPart.{ClientPart}
use Rattle.script_plans.specs.declared.board_run.BoardRun.{BoardRun}
use Rattle.transcript.specs.declared.line.OpResult.{OpResult}
use Rattle.transcript.specs.declared.line.OpResult.TheVariants as result
use Rattle.transcript.specs.declared.line.OpLine.{OpLine}
use Rattle.transcript.specs.declared.line.BoardLine.{BoardLine}
use Rattle.transcript.specs.declared.line.BoardLine.TheVariants as board_lines
use Rattle.transcript.specs.Ends.{ends_of}
use Rattle.transcript.specs.Results.{op_result, op_places, is_good}
use Rattle.script_plans.specs.Plan.{count_on}
use Rattle.script_plans.specs.Runs.{outcomes_on}

-- ---- operations

-- what is told of an operation: its result and its places
abbrev pub Showing : Type 0
Showing = OpResult × List (ℕ × ℕ)

abbrev pub never_sent : Showing
never_sent = (result.Unsent, [])

abbrev pub by_pieces : ClientPart → RegOp → Option (List PieceAt) → Showing
by_pieces part op (Some pieces) = (op_result (ends_of part) op pieces, op_places (ends_of part) pieces)
by_pieces part op None = never_sent

-- operation `k`, from 0, of those of a client on a board
abbrev pub in_part : Option ClientPart → ℕ → RegOp → Showing
in_part (Some part) k op = by_pieces part op (slice_get part.planned.pieces k)
in_part None k op = never_sent

-- on a board that is not live nothing is done and nothing has a place
abbrev pub showing : BoardRun → ℕ → ℕ → RegOp → Showing
showing run client k op = elim run.greeting as (λ _. Showing) [
  | greeting.Live payload ↦ in_part (slice_get run.parts client) k op
  | greeting.Silent ↦ never_sent
  | greeting.Down ↦ (result.LinkLost, [])
]

abbrev pub line_with : ℕ → RegOp → List ℕ → Showing → OpLine
line_with number op name shows =
    record { number = number; verb = op.verb; board = name; name = op.name; result = shows.0; places = shows.1 }

-- nothing of an operation that a rule denies was sent
abbrev pub denied_by : ℕ → Showing
denied_by rule = (result.Denied rule, [])

-- An operation behind these of its client is shown so, by the rule that denies it. On its board the operations alone
-- are counted that no rule denies.
abbrev pub shown_behind : BoardRun → ℕ → List Asked → RegOp → Option ℕ → Showing
shown_behind run client before op None = showing run client (count_on op.board (allowed_operations before)) op
shown_behind run client before op (Some rule) = denied_by rule

-- the line of an operation on a board, behind these operations of its client, denied or not
abbrev pub line_of : ℕ → List Asked → Asked → BoardRun → OpLine
line_of client before ask run =
    line_with (length before + 1) ask.op run.name (shown_behind run client before ask.op ask.denied)

-- the lines of a client's operations, behind others; one on a board that is not there has none
abbrev pub lines_behind : List BoardRun → ℕ → List Asked → List Asked → List OpLine
lines_behind runs client before [] = []
lines_behind runs client before (ask ∷ asks) =
    option_to_list (option_map (line_of client before ask) (slice_get runs ask.op.board))
    ++ lines_behind runs client (before ++ ask ∷ []) asks

-- the lines of a client, counted from 0
abbrev pub client_lines : List BoardRun → ℕ → List Step → List OpLine
client_lines runs client steps = lines_behind runs client [] (asked_operations steps)

-- the lines of the clients from a number on
abbrev pub lines_from : List BoardRun → ℕ → List (List Step) → List (List OpLine)
lines_from runs client [] = []
lines_from runs client (steps ∷ scripts) = client_lines runs client steps ∷ lines_from runs (client + 1) scripts

-- ---- boards

-- it was sent, and lost with the link
abbrev pub is_lost : Outcome → Bool
is_lost (Replied place words) = false
is_lost (TimedOut place rounds) = false
is_lost Unsent = false
is_lost (LinkLost (Some place)) = true
is_lost (LinkLost None) = false

abbrev pub live_line : List ℕ → List Outcome → BoardLine
live_line name outcomes =
    board_lines.Live name (count_by is_sent outcomes) (count_by is_replied outcomes) (count_by is_timed_out outcomes)
    (count_by is_lost outcomes)

abbrev pub board_line : BoardRun → BoardLine
board_line run = elim run.greeting as (λ _. BoardLine) [
  | greeting.Live payload ↦ live_line run.name (outcomes_on run)
  | greeting.Silent ↦ board_lines.Silent run.name
  | greeting.Down ↦ board_lines.Down run.name
]

-- ---- the whole

pub record Transcript : Type 0 where
  pub clients : List (List OpLine)
  pub boards : List BoardLine

-- the lines of a run, by the steps of each client and what became of each board
abbrev pub transcript_of : List (List Step) → List BoardRun → Transcript
transcript_of scripts runs = record { clients = lines_from runs 0 scripts; boards = map board_line runs }

-- ---- the status

-- every line is a value, done or was
abbrev pub are_good : List OpLine → Bool
are_good lines = list_all (λ (line : OpLine). is_good line.result) lines

abbrev pub all_good : List (List OpLine) → Bool
all_good clients = list_all are_good clients

-- 0 where every line is a value, done or was, and else 1
abbrev pub run_status : List (List OpLine) → ℕ
run_status clients = if all_good clients then 0 else 1
