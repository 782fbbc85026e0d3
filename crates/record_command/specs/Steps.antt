-- How the steps of the call work together: what its private functions promise one another. No public clause speaks of
-- these.
use Rattle.std.specs.Prelude.{◌≡◌, ℕ, ◌==◌, ◌&&◌, List, [], ◌∷◌, Result, Ok, Err, Some}
use Rattle.std.specs.Global.{Vec}
use Rattle.links.specs.Telling.{Telling}
use Rattle.board_specs.specs.declared.spec.BoardSpec.{BoardSpec}
use Rattle.board_history.specs.Links.{LinkReport}
use Rattle.board_history.specs.LinkRuns.{AreRunsOver}
use Rattle.script_steps.specs.declared.operation.Step.{Step}
use Rattle.script_lang.specs.declared.session.Session.{Session}
use Rattle.script_plans.specs.declared.board_run.BoardRun.{BoardRun}
use Rattle.transcript.specs.Lines.{all_good, transcript_of}
use Rattle.command_terms.specs.Numbers.{told_status}
use Rattle.command_terms.specs.declared.answer.Answer.{Answer}
use Rattle.capture_reader.specs.declared.capture.Capture.{Capture}
use Rattle.capture_reader.specs.CaptureText.{IsCapture, capture_text}
use Rattle.capture_reader.specs.Proved.{IsProved}
use Rattle.record_command.specs.Headline.{ShowsTraffic, body_count, first_of}
use Rattle.record_command.specs.Passing.{caught_in}

-- the text of a capture, and the status that goes with it after these outcomes
pub record Writes (steps : List (List Step)) (runs : List BoardRun) (capture : Capture) (status : ℕ) (text : List ℕ)
    : Type 0 where
  pub has_text : IsCapture capture
  pub spelled : text ≡ capture_text capture
  pub proved : ℕ
  pub is_proved : IsProved capture proved
  pub told : status ≡ told_status (all_good (transcript_of steps runs).clients && (proved == body_count runs))

-- there are outcomes, and this is written of them
abbrev pub WritesOf : {E : Type 0} → List (List Step) → Result (Vec BoardRun) E → Capture → Answer → Type 0
WritesOf steps (Ok runs) capture answer = Writes steps runs.items capture answer.status answer.text.items
WritesOf steps (Err fault) capture answer = ⊥

-- The record of a session's steps, for some outcomes over the link of its one board, which shows this.
pub record Records (session : Session) (steps : List (List Step)) (links : List LinkReport) (status : ℕ)
    (text : List ℕ) : Type 0 where
  pub board : BoardSpec
  pub one_board : session.boards ≡ board ∷ []
  pub runs : List BoardRun
  pub boards : AreRunsOver session.settings 0 session.boards steps runs links
  pub capture : Capture
  pub first : first_of board.link ≡ Some capture.first
  pub writes : Writes steps runs capture status text
  pub link : LinkReport
  pub one_link : links ≡ link ∷ []
  pub is_traffic : capture.items ≡ caught_in link.traffic
  pub telling : Telling
  pub tells : link.telling ≡ Some telling
  pub shows : ShowsTraffic board steps capture writes.proved telling
