use Rattle.run_audit.proofs.Fields.{late_is, not_true}
use Rattle.run_audit.proofs.agreeing.is_late_answer.Goals as goal

pub returns : goal.returns
returns c =
    let late = late_is c.args.ends.now c.args.op.now c.args.answer.now c.args.pieces.now
    (λ same. not_true (c.if-is_late_garbled.ensures.1 same)) in
    (λ yes. late.0 (c.answers_one.ensures.0 yes), λ is. c.answers_one.ensures.1 (late.1 is))
