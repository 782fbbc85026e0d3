use Rattle.std.proofs.Common.{◌≡◌, rules}
use Rattle.std.specs.Prelude.{IsErrAnd}
use Rattle.session_input.specs.Deserved as input
use Rattle.audit_command.specs.Boards.{BreaksInAudit}
use Rattle.audit_command.specs.Input.{Deserves, HasParts, IsTooLong, Tells, of_session}
use Rattle.audit_command.proofs.Told.{handed_on, of_document}
use Rattle.audit_command.proofs.reading.read_for_audit.Goals as goal

pub returns-in_err-session-clause-refused : goal.returns-in_err-session-clause-refused
returns-in_err-session-clause-refused c =
    let bytes = c.args.bytes.now in
    let document = c.in_ok-document.document.now in
    let transcript = c.in_ok-document.transcript.now in
    let unread = c.in_err-session.field-0.0 in
    let fits : ¬ IsTooLong bytes = search rules in
    let parts : HasParts bytes document transcript = search rules in
    let told : input.Tells (input.Deserves BreaksInAudit document) unread = search rules in
    let handed : IsErrAnd c.from_residual-in_err-session.result (λ it. it ≡ of_session unread) = search rules in
    handed_on (Tells (Deserves bytes)) c.from_residual-in_err-session.result (of_session unread) handed
    (of_document bytes document transcript fits parts unread told)
