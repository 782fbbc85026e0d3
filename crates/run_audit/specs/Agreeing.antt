-- How the code compares results: what private functions promise one another. No public clause speaks of these.
use Rattle.std.specs.Prelude.{◌≡◌, ◌⊎◌, ℕ, true, List, [], ◌∷◌, ◌++◌, length, slice_get, Some, None}
use Rattle.std.specs.List.{AllByRecursion, Any}
use Rattle.board_specs.specs.declared.spec.BoardSpec.{BoardSpec}
use Rattle.script_steps.specs.declared.operation.Step.{Step}
use Rattle.script_steps.specs.declared.operation.RegOp.{RegOp}
use Rattle.script_plans.specs.declared.planned.PieceAt.{PieceAt}
use Rattle.transcript.specs.declared.body_end.BodyEnd.{BodyEnd}
use Rattle.transcript.specs.declared.body_end.Told.{Told}
use Rattle.transcript.specs.declared.body_end.Told.TheVariants as told
use Rattle.transcript.specs.declared.line.LateAnswer.{LateAnswer}
use Rattle.transcript.specs.declared.line.OpResult.{OpResult}
use Rattle.transcript.specs.declared.line.OpResult.TheVariants.{Value, Done, Was, Error, Skipped, TimedOut, Late}
use Rattle.transcript.specs.declared.line.OpResult.TheVariants.{Unsent, LinkLost, Garbled, Denied}
use Rattle.script_steps.specs.Rulings.{Asked, asked_operations}
use Rattle.script_plans.specs.declared.board_run.BoardRun.{BoardRun}
use Rattle.transcript.specs.declared.line.OpLine.{OpLine}
use Rattle.transcript.specs.Lines.{Showing}
use Rattle.transcript.specs.Ends.{late_of, piece_result}
use Rattle.transcript.specs.Results.{is_good, shown_late}
use Rattle.run_audit.specs.AskedLines.{AskedLine}
use Rattle.run_audit.specs.Results.{IsLateAnswer, IsReplayed, TellApart, result_in}

-- what an operation shows of the late answer to one of its pieces, by what this came to
abbrev pub shown_of : RegOp → OpResult → LateAnswer
shown_of op came_to = shown_late op.verb op.mask (late_of came_to)

-- the answer is that to one of these pieces before which all are done
abbrev pub AnswersOne : List BodyEnd → RegOp → LateAnswer → List PieceAt → Type 0
AnswersOne ends op answer [] = ⊥
AnswersOne ends op answer (piece ∷ pieces) = (answer ≡ shown_of op (piece_result ends piece))
    ⊎ ((is_good (piece_result ends piece) ≡ true) × AnswersOne ends op answer pieces)

-- a reply to the body of the operation tells this
abbrev pub IsAnswer : OpResult → Type 0
IsAnswer (Value words) = Unit {0}
IsAnswer Done = Unit {0}
IsAnswer (Was word) = Unit {0}
IsAnswer (Error code after) = Unit {0}
IsAnswer Skipped = Unit {0}
IsAnswer (TimedOut rounds) = ⊥
IsAnswer (Late rounds answer) = ⊥
IsAnswer Unsent = ⊥
IsAnswer LinkLost = ⊥
IsAnswer Garbled = ⊥
IsAnswer (Denied rule) = ⊥

-- the result agrees with what the operation came to in the replay
abbrev pub AgreesWith : ℕ → List BodyEnd → RegOp → List PieceAt → OpResult → OpResult → Type 0
AgreesWith rounds ends op pieces came_to (Value words) = Value words ≡ came_to
AgreesWith rounds ends op pieces came_to Done = Done ≡ came_to
AgreesWith rounds ends op pieces came_to (Was word) = Was word ≡ came_to
AgreesWith rounds ends op pieces came_to (Error code after) = Error code after ≡ came_to
AgreesWith rounds ends op pieces came_to Skipped = Skipped ≡ came_to
AgreesWith rounds ends op pieces came_to (TimedOut told) = told ≡ rounds
AgreesWith rounds ends op pieces came_to (Late told answer) = (told ≡ rounds) × IsLateAnswer ends op pieces answer
AgreesWith rounds ends op pieces came_to Unsent = Unit {0}
AgreesWith rounds ends op pieces came_to LinkLost = Unit {0}
AgreesWith rounds ends op pieces came_to Garbled = ⊥
AgreesWith rounds ends op pieces came_to (Denied rule) = Unit {0}

-- of no body a late answer is told
abbrev pub IsNotLate : Told → Type 0
IsNotLate (told.Answered list) = Unit {0}
IsNotLate told.Garbled = Unit {0}
IsNotLate (told.TimedOut rounds) = Unit {0}
IsNotLate (told.Late rounds list) = ⊥
IsNotLate told.Unsent = Unit {0}
IsNotLate told.LinkLost = Unit {0}

abbrev pub HaveNoLate : List BodyEnd → Type 0
HaveNoLate ends = AllByRecursion (λ (end : BodyEnd). IsNotLate end.told) ends

-- ---- the two rules on results

-- the result of this line is not the one of the replay
pub record IsUnreplayedAt (rounds : ℕ) (boards : List BoardSpec) (scripts : List (List Step)) (lines : List AskedLine)
    (line : ℕ) : Type 0 where
  pub before : List AskedLine
  pub asking : AskedLine
  pub behind : List AskedLine
  pub all : lines ≡ before ++ asking ∷ behind
  pub here : asking.line ≡ line
  pub wrong : ¬ IsReplayed rounds boards scripts lines asking

-- this line tells another thing of its body than one before it
pub record IsApartAt (boards : List BoardSpec) (scripts : List (List Step)) (lines : List AskedLine) (line : ℕ) : Type 0
  where
    pub before : List AskedLine
    pub asking : AskedLine
    pub behind : List AskedLine
    pub all : lines ≡ before ++ asking ∷ behind
    pub here : asking.line ≡ line
    pub wrong : Any (λ earlier. TellApart boards scripts earlier asking) before

-- ---- lines of the replay

-- the line shows what this operation came to in the replay of its board, where no rule denies it
abbrev pub IsLineBeside : List BoardRun → AskedLine → OpLine → Type 0
IsLineBeside runs asking line =
    (run : BoardRun) → slice_get runs asking.ask.op.board ≡ Some run → asking.ask.denied ≡ None
    → line.result ≡ result_in run asking

-- the board of the operation is there
abbrev pub HasRun : List BoardRun → Asked → Type 0
HasRun runs ask = (run : BoardRun) × (slice_get runs ask.op.board ≡ Some run)

-- each operation of a client shows something, and its board is there
abbrev pub HaveRuns : List BoardRun → List Step → List Showing → Type 0
HaveRuns runs steps shows = (length shows ≡ length (asked_operations steps)) × AllByRecursion (HasRun runs) (asked_operations steps)
