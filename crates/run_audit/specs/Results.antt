-- Which results lines may show, where the bodies on each board are executed in the order that is shown. Profile.
use Rattle.std.specs.Prelude.{◌≡◌, ◌≢◌, ◌⊎◌, ℕ, true, List, [], ◌∷◌, ◌++◌, map, slice_get, Some, None}
use Rattle.std.specs.List.{Any, list_all}
use Rattle.board_specs.specs.declared.spec.BoardSpec.{BoardSpec}
use Rattle.script_steps.specs.declared.operation.RegOp.{RegOp}
use Rattle.script_steps.specs.declared.operation.Step.{Step}
use Rattle.script_plans.specs.declared.board_run.BoardRun.{BoardRun}
use Rattle.script_plans.specs.declared.planned.PieceAt.{PieceAt}
use Rattle.transcript.specs.declared.body_end.BodyEnd.{BodyEnd}
use Rattle.transcript.specs.declared.line.LateAnswer.{LateAnswer}
use Rattle.transcript.specs.declared.line.LateAnswer.TheVariants as late_answer
use Rattle.transcript.specs.declared.line.OpResult.{OpResult}
use Rattle.transcript.specs.declared.line.OpResult.TheVariants.{Value, Done, Was, Error, Skipped, TimedOut, Late}
use Rattle.transcript.specs.declared.line.OpResult.TheVariants.{Unsent, LinkLost, Garbled, Denied}
use Rattle.transcript.specs.Ends.{late_of, piece_result}
use Rattle.transcript.specs.Lines.{showing}
use Rattle.transcript.specs.Results.{is_good, shown_late}
use Rattle.transcript.specs.Steps.{ends_on}
use Rattle.transcript_reader.specs.declared.shown.Shown.{Shown}
use Rattle.run_audit.specs.declared.fate.Fate.{Fate}
use Rattle.run_audit.specs.declared.fate.Fate.TheVariants as fate
use Rattle.run_audit.specs.AskedLines.{AskedLine, asked_lines, pieces_of}
use Rattle.run_audit.specs.Replay.{replay_of_board}

-- ---- one line

-- the answer is that to some piece of the operation before which all are done, and the reply is one to its body
pub record IsLateAnswer (ends : List BodyEnd) (op : RegOp) (pieces : List PieceAt) (answer : LateAnswer) : Type 0 where
  pub before : List PieceAt
  pub piece : PieceAt
  pub behind : List PieceAt
  pub all : pieces ≡ before ++ piece ∷ behind
  pub done : list_all is_good (map (piece_result ends) before) ≡ true
  pub same : answer ≡ shown_late op.verb op.mask (late_of (piece_result ends piece))
  pub joined : answer ≢ late_answer.Garbled

-- what the line would show, had the board replied in time
abbrev pub result_in : BoardRun → AskedLine → OpResult
result_in run asking = (showing run asking.client asking.number asking.ask.op).0

-- The result agrees with the run of its board as it is shown: what the board answered is what the bus gives, in time or
-- late; a timeout tells the rounds of the session; and no reply is garbled.
abbrev pub Agrees : ℕ → List PieceAt → BoardRun → AskedLine → OpResult → Type 0
Agrees rounds pieces run asking (Value words) = result_in run asking ≡ Value words
Agrees rounds pieces run asking Done = result_in run asking ≡ Done
Agrees rounds pieces run asking (Was word) = result_in run asking ≡ Was word
Agrees rounds pieces run asking (Error code after) = result_in run asking ≡ Error code after
Agrees rounds pieces run asking Skipped = result_in run asking ≡ Skipped
Agrees rounds pieces run asking (TimedOut told) = told ≡ rounds
Agrees rounds pieces run asking (Late told answer) =
    (told ≡ rounds) × IsLateAnswer (ends_on asking.client run) asking.ask.op pieces answer
Agrees rounds pieces run asking Unsent = Unit {0}
Agrees rounds pieces run asking LinkLost = Unit {0}
Agrees rounds pieces run asking Garbled = ⊥
Agrees rounds pieces run asking (Denied rule) = Unit {0}

-- the same of the board that the operation is on
abbrev pub IsReplayed : ℕ → List BoardSpec → List (List Step) → List AskedLine → AskedLine → Type 0
IsReplayed rounds boards scripts lines asking =
    (spec : BoardSpec) → slice_get boards asking.ask.op.board ≡ Some spec
    → Agrees rounds (pieces_of boards scripts asking)
    (replay_of_board boards scripts lines spec asking.ask.op.board) asking asking.shows.0

-- ---- two lines

-- what a result tells of a body: it was answered in time, timed out without an answer or with a late one, never sent, or
-- lost with the link
abbrev pub fate_in : OpResult → Fate
fate_in (Value words) = fate.Answered
fate_in Done = fate.Answered
fate_in (Was word) = fate.Answered
fate_in (Error code after) = fate.Answered
fate_in Skipped = fate.Answered
fate_in (TimedOut rounds) = fate.TimedOut
fate_in (Late rounds answer) = fate.AnsweredLate
fate_in Unsent = fate.Unsent
fate_in LinkLost = fate.LinkLost
fate_in Garbled = fate.Answered
fate_in (Denied rule) = fate.Unsent

-- the one piece of the operation stands in this body
abbrev pub IsWithin : List BoardSpec → List (List Step) → ℕ → AskedLine → Type 0
IsWithin boards scripts body asking = (index : ℕ)
    × (pieces_of boards scripts asking ≡ record { body = body; index = index } ∷ [])

-- Two operations of one piece each stand in one body, and their lines tell different things of it.
pub record TellApart (boards : List BoardSpec) (scripts : List (List Step)) (earlier later : AskedLine) : Type 0 where
  pub client : earlier.client ≡ later.client
  pub board : earlier.ask.op.board ≡ later.ask.op.board
  pub body : ℕ
  pub within_earlier : IsWithin boards scripts body earlier
  pub within_later : IsWithin boards scripts body later
  pub apart : fate_in earlier.shows.0 ≢ fate_in later.shows.0

-- The result of this line is not the one of the replay, or it tells another thing of its body than a line before it.
pub record IsWrongAt (rounds : ℕ) (boards : List BoardSpec) (scripts : List (List Step)) (shown : Shown) (line : ℕ)
    : Type 0 where
  pub before : List AskedLine
  pub asking : AskedLine
  pub behind : List AskedLine
  pub all : asked_lines scripts shown ≡ before ++ asking ∷ behind
  pub here : asking.line ≡ line
  pub wrong : ¬ IsReplayed rounds boards scripts (asked_lines scripts shown) asking
      ⊎ Any (λ earlier. TellApart boards scripts earlier asking) before

-- ---- what a line would show

-- Of the operation of this line, which no rule denies: this is what the line would show, had the board replied in time to
-- each body that the text shows with a place.
pub record IsInTime (boards : List BoardSpec) (scripts : List (List Step)) (shown : Shown) (line : ℕ)
    (result : OpResult) : Type 0 where
  pub at : ℕ
  pub asking : AskedLine
  pub there : slice_get (asked_lines scripts shown) at ≡ Some asking
  pub here : asking.line ≡ line
  pub allowed' : asking.ask.denied ≡ None
  pub spec : BoardSpec
  pub on : slice_get boards asking.ask.op.board ≡ Some spec
  pub same : result ≡ result_in
      (replay_of_board boards scripts (asked_lines scripts shown) spec asking.ask.op.board) asking
