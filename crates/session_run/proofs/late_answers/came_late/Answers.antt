use Rattle.std.proofs.Common.{arith}
use Rattle.std.proofs.lemmas.Grind.{common_steps}
use Rattle.session_run.proofs.late_answers.came_late.Goals as goal

pub loop-outcome-init : goal.loop-outcome-init
loop-outcome-init g c = grind (arith, common_steps)

pub returns-then-is_late : goal.returns-then-is_late
returns-then-is_late g c = grind (arith, common_steps)

pub loop-outcome-preserved : goal.loop-outcome-preserved
loop-outcome-preserved g c = grind (arith, common_steps)

pub returns : goal.returns
returns g c = grind (arith, common_steps)
