use Rattle.std.proofs.Common.{arith}
use Rattle.std.proofs.lemmas.Grind.{common_steps}
use Rattle.script_lang.proofs.texts.cut_at.Goals as goal

pub loop-i-init : goal.loop-i-init
loop-i-init c = grind (arith, common_steps)

pub overflow_add-result : goal.overflow_add-result
overflow_add-result c = grind (arith, common_steps)

pub returns-then-text-i : goal.returns-then-text-i
returns-then-text-i c = grind (arith, common_steps)

pub loop-i-smaller : goal.loop-i-smaller
loop-i-smaller c = grind (arith, common_steps)

pub loop-i-preserved : goal.loop-i-preserved
loop-i-preserved c = grind (arith, common_steps)

pub returns : goal.returns
returns c = grind (arith, common_steps)
