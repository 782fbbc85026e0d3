use Rattle.std.proofs.Common.{arith}
use Rattle.std.proofs.lemmas.Grind.{common_steps}
use Rattle.session_run.proofs.late_answers.copy_lates.Goals as goal

pub loop-outcome-init : goal.loop-outcome-init
loop-outcome-init g c = grind (arith, common_steps)

pub loop-outcome-preserved : goal.loop-outcome-preserved
loop-outcome-preserved g c = (
  grind (arith, common_steps),
  omega (arith, c.push_reserved.ensures.len, c.loop-outcome.invariant.1),
  omega (arith, c.push_reserved.ensures.capacity, c.loop-outcome.invariant.2),
)

pub returns : goal.returns
returns g c = grind (arith, common_steps)

pub returns-in_err-lates : goal.returns-in_err-lates
returns-in_err-lates g c = grind (arith, common_steps)

pub returns-in_err-copy_late : goal.returns-in_err-copy_late
returns-in_err-copy_late g c = grind (arith, common_steps)
