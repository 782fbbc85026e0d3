-- What a configuration that was written is.
use Rattle.std.proofs.Common.{◌≡◌, List, Result, IfOk}
use Rattle.board_specs.specs.declared.spec.LinkSpec.{LinkSpec}
use Rattle.board_history.specs.Links.{LinkReport}
use Rattle.script_steps.specs.declared.operation.Step.{Step}
use Rattle.script_lang.specs.declared.session.Session.{Session}
use Rattle.session_run.specs.declared.session.RunFault.{RunFault}
use Rattle.transcript.specs.Lines.{all_good, transcript_of}
use Rattle.command_terms.specs.declared.answer.Answer.{Answer}
use Rattle.command_terms.specs.Numbers.{refused_status}
use Rattle.command_terms.proofs.Statuses.{told_is_done}
use Rattle.run_laws.specs.Leaving.{RunLeaves}
use Rattle.run_laws.proofs.Leaving.{kept_unless_refused}
use Rattle.config_commands.specs.Steps.{Writes}

-- it has no status of a refusal
pub written_unrefused : (P : Type 0) {session : Session} {steps : List (List Step)} {made makes : List LinkSpec}
    {result : Result Answer RunFault} {links : List LinkReport}
    → RunLeaves (Writes session steps) session steps made makes result links
    → IfOk result (λ answer. answer.status ≡ refused_status → P)
written_unrefused P {session} {steps} {result = result} {links = links} leaves =
    kept_unless_refused P (Writes session steps links)
    (λ status text writes. told_is_done (all_good (transcript_of steps writes.runs).clients) status writes.told)
    result leaves.tells
