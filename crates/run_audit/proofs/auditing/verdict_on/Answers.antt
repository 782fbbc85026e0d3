use Rattle.std.proofs.Common.{refl}
use Rattle.run_audit.proofs.Verdicts.{lines_few, they_are}
use Rattle.run_audit.proofs.auditing.verdict_on.Goals as goal

pub verdict_by-requires-clause-lines : goal.verdict_by-requires-clause-lines
verdict_by-requires-clause-lines c =
    lines_few c.args.session.now c.args.scripts.now c.requires.shown.0 c.args.shown.now c.requires.can c.requires.shown.1

pub verdict_by-requires-clause-asked : goal.verdict_by-requires-clause-asked
verdict_by-requires-clause-asked c =
    they_are c.args.scripts.now c.args.shown.now c.as_slice.ensures c.in_ok-plans.ensures.plans c.in_ok-asked.ensures refl
    c.as_slice-2.ensures.value
