-- Steps that the boards of a session can run. Profile.
use Rattle.std.specs.Prelude.{◌<◌, ◌≤◌, ◌^◌, List, length}
use Rattle.std.specs.List.{AllByRecursion}
use Rattle.toml.specs.Data.{Members}
use Rattle.script_steps.specs.declared.operation.Step.{Step}
use Rattle.script_steps.specs.Executable.{AreExecutable}
use Rattle.script_lang.specs.declared.session.Session.{Session}
use Rattle.script_lang.specs.declared.script_refusal.TheConstants.{MAX_LINES}
use Rattle.script_lang.specs.Document.{IsSession}
use Rattle.session_input.specs.Deserved.{AreOnBoards, HasBus}
use Rattle.session_run.specs.Scripts.{CanBeRun}
use Rattle.session_run.specs.Links.{CanBeReached}

-- The session is that of a document, each of its boards has a bus, and the steps of each client ask boards of it for what
-- can be executed.
pub record CanRunSteps (session : Session) (steps : List (List Step)) : Type 0 where
  pub document : Members
  pub is_session : IsSession document session
  pub buses : AllByRecursion HasBus session.boards
  pub on_boards : AllByRecursion (AreOnBoards (length session.boards)) steps
  pub executable : AllByRecursion AreExecutable steps

-- What running them rests on: they are few, can be packed, and each board can be reached.
pub record MayRun (session : Session) (steps : List (List Step)) : Type 0 where
  pub few_boards : length session.boards < 2 ^ 32
  pub reached : AllByRecursion CanBeReached session.boards
  pub can : CanBeRun steps
  pub short : AllByRecursion (λ steps. length steps ≤ MAX_LINES) steps
