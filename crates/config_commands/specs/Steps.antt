-- How the steps of the calls work together: what private functions promise one another. No public clause speaks of these.
use Rattle.std.specs.Prelude.{◌≡◌, ℕ, List, [], ◌∷◌}
use Rattle.board_history.specs.Links.{LinkReport}
use Rattle.board_history.specs.LinkRuns.{AreRunsOver}
use Rattle.script_steps.specs.declared.operation.Step.{Step}
use Rattle.script_lang.specs.declared.session.Session.{Session}
use Rattle.script_plans.specs.declared.board_run.BoardRun.{BoardRun}
use Rattle.transcript.specs.Lines.{client_lines, run_status, transcript_of}
use Rattle.config_store.specs.Text.{state_text}

-- the steps of the first client
abbrev pub first_of : List (List Step) → List Step
first_of [] = []
first_of (steps ∷ others) = steps

-- the text of what the first client's steps read, for some outcomes over these links
pub record Writes (session : Session) (steps : List (List Step)) (links : List LinkReport) (status : ℕ) (text : List ℕ)
    : Type 0 where
  pub runs : List BoardRun
  pub boards : AreRunsOver session.settings 0 session.boards steps runs links
  pub spelled : text ≡ state_text session.boards (client_lines runs 0 (first_of steps))
  pub told : status ≡ run_status (transcript_of steps runs).clients
