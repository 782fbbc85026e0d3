use Rattle.std.proofs.Common.{subst}
use Rattle.transcript_reader.specs.Shown.{IsShownBy}
use Rattle.run_audit.proofs.auditing.audit.Goals as goal

pub returns-in-Ok : goal.returns-in-Ok
returns-in-Ok c =
    c.verdict_on.ensures c.args.text.now
    (subst (λ boards. IsShownBy boards c.args.scripts.now c.args.text.now c.in-Ok.shown) c.as_slice.ensures
    c.in-Ok.ensures.found)
