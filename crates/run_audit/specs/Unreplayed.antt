-- How the code finds whether a line shows what the replay came to: what private functions promise one another. No public
-- clause speaks of these.
use Rattle.std.specs.Prelude.{ℕ, List, [], map, slice_get, Option, Some, None, unwrap_or, option_and_then}
use Rattle.script_plans.specs.declared.board_run.BoardRun.{BoardRun}
use Rattle.script_plans.specs.declared.board_run.ClientPart.{ClientPart}
use Rattle.script_plans.specs.declared.greeting.Greeting.TheVariants as greeting
use Rattle.script_plans.specs.declared.planned.PieceAt.{PieceAt}
use Rattle.script_steps.specs.declared.operation.RegOp.{RegOp}
use Rattle.transcript.specs.declared.body_end.BodyEnd.{BodyEnd}
use Rattle.transcript.specs.declared.line.OpResult.{OpResult}
use Rattle.transcript.specs.declared.line.OpResult.TheVariants.{Unsent}
use Rattle.transcript.specs.Ends.{ends_with}
use Rattle.transcript.specs.Results.{op_result}
use Rattle.run_audit.specs.Apart.{plans_in}
use Rattle.run_audit.specs.AskedLines.{AskedLine}
use Rattle.run_audit.specs.Agreeing.{AgreesWith}
use Rattle.run_audit.specs.Steps.{planned_pieces}

-- where the pieces of an operation stand that a client asks of this board, where the board is live
abbrev pub sent_on : BoardRun → ℕ → ℕ → Option (List PieceAt)
sent_on run client number = elim run.greeting as (λ _. Option (List PieceAt)) [
  | greeting.Live payload ↦
      option_and_then (λ (part : ClientPart). slice_get part.planned.pieces number) (slice_get run.parts client)
  | greeting.Silent ↦ None
  | greeting.Down ↦ None
]

-- the same by the runs of all boards
abbrev pub sent_in : List BoardRun → AskedLine → Option (List PieceAt)
sent_in runs asking =
    option_and_then (λ (run : BoardRun). sent_on run asking.client asking.number)
    (slice_get runs asking.ask.op.board)

-- what an operation of these pieces came to, where its bodies ended so; without any it was not sent
abbrev pub comes_to : List BodyEnd → RegOp → Option (List PieceAt) → OpResult
comes_to ends op None = Unsent
comes_to ends op (Some pieces) = op_result ends op pieces

-- how the bodies of a client on a board ended, where nothing came late
abbrev pub ends_in_time : ClientPart → List BodyEnd
ends_in_time part = ends_with part.planned.bodies part.outcomes []

-- those of each client on a board
abbrev pub board_ends : BoardRun → List (List BodyEnd)
board_ends run = map ends_in_time run.parts

-- those of one of them on one of these boards
abbrev pub ends_at : List (List (List BodyEnd)) → ℕ → ℕ → List BodyEnd
ends_at ends board client = unwrap_or (slice_get (unwrap_or (slice_get ends board) []) client) []

-- the line of an operation agrees with what it came to on these boards
abbrev pub AgreesBy : ℕ → List BoardRun → AskedLine → Type 0
AgreesBy rounds runs asking =
    let ends = ends_at (map board_ends runs) asking.ask.op.board asking.client in
    AgreesWith rounds ends asking.ask.op (planned_pieces (plans_in runs) asking)
    (comes_to ends asking.ask.op (sent_in runs asking)) asking.shows.0
