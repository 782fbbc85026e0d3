-- What a run prints over links that tell is a transcript of its session.
use Rattle.std.proofs.Common.{List}
use Rattle.board_history.specs.Links.{LinkReport}
use Rattle.script_lang.specs.declared.session.Session.{Session}
use Rattle.script_steps.specs.declared.operation.Step.{Step}
use Rattle.script_plans.specs.declared.board_run.BoardRun.{BoardRun}
use Rattle.transcript.specs.Lines.{transcript_of}
use Rattle.transcript.specs.Text.{transcript_text}
use Rattle.transcript_reader.specs.Shown.{IsShownBy}
use Rattle.audit_laws.specs.Audited.{IsToldRun, shown_of}
use Rattle.audit_laws.proofs.FormBoards.{Laws}
use Rattle.audit_laws.proofs.FormOver.{over_links}

pub form_holds : Laws → (session : Session) (steps : List (List Step)) (runs : List BoardRun) (links : List LinkReport)
    → IsToldRun session steps runs links
    → IsShownBy session.boards steps (transcript_text (transcript_of steps runs)) (shown_of (transcript_of steps runs))
form_holds laws session steps runs links told =
    over_links laws session.settings session.boards steps runs links told.few_rounds told.few_clients
    told.can.executable told.can.few told.can.boards' told.words told.told told.run.boards told.run.denied
