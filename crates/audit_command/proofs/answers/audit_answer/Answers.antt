use Rattle.std.proofs.Common.{rules}
use Rattle.run_audit.specs.Verdicts.{IsVerdict}
use Rattle.audit_command.specs.Input.{Deserves, IsInput}
use Rattle.audit_command.proofs.Owed.{owed_refusal, owed_verdict}
use Rattle.audit_command.proofs.answers.audit_answer.Goals as goal

pub returns-in_ok-verdict-in-Ok : goal.returns-in_ok-verdict-in-Ok
returns-in_ok-verdict-in-Ok c =
    let read = c.in-Ok.read in
    let verdict = c.in_ok-verdict-in-Ok.verdict in
    let input : IsInput c.args.bytes.now read.session read.steps.items read.transcript.now = search rules in
    let found : IsVerdict read.session read.steps.items read.transcript.now verdict = search rules in
    record {
      owed = owed_verdict c.args.bytes.now read.session read.steps.items read.transcript.now input verdict found
          c.told.result c.told.ensures.status c.told.ensures.text;
    }

pub returns-in-Err-Refused : goal.returns-in-Err-Refused
returns-in-Err-Refused c =
    let deserved : Deserves c.args.bytes.now c.in-Err-Refused.refusal = search rules in
    record {
      owed = owed_refusal c.args.bytes.now c.in-Err-Refused.refusal deserved c.refused_input.result
          c.refused_input.ensures.status c.refused_input.ensures.text;
    }
