-- How the steps of the call work together: what its private functions promise one another. No public clause speaks of
-- these.
use Rattle.std.specs.Prelude.{◌≡◌, ℕ, List}
use Rattle.board_history.specs.Links.{LinkReport}
use Rattle.board_history.specs.LinkRuns.{AreRunsOver}
use Rattle.script_steps.specs.declared.operation.Step.{Step}
use Rattle.script_lang.specs.declared.session.Session.{Session}
use Rattle.script_plans.specs.declared.board_run.BoardRun.{BoardRun}
use Rattle.transcript.specs.Lines.{transcript_of, run_status}
use Rattle.transcript.specs.Text.{transcript_text}

-- the transcript of a session's steps, for some outcomes over these links
pub record Prints (session : Session) (steps : List (List Step)) (links : List LinkReport) (status : ℕ) (text : List ℕ)
    : Type 0 where
  pub runs : List BoardRun
  pub boards : AreRunsOver session.settings 0 session.boards steps runs links
  pub spelled : text ≡ transcript_text (transcript_of steps runs)
  pub told : status ≡ run_status (transcript_of steps runs).clients
