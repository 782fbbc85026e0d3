use Rattle.std.proofs.Common.{arith}
use Rattle.std.proofs.lemmas.Grind.{common_steps}
use Rattle.script_lang.proofs.scripts.each_script.Goals as goal

pub returns-in_err-scripts : goal.returns-in_err-scripts
returns-in_err-scripts c = grind (arith, common_steps)

pub loop-item-init : goal.loop-item-init
loop-item-init c = grind (arith, common_steps)

pub returns-in_err-script : goal.returns-in_err-script
returns-in_err-script c = grind (arith, common_steps)

pub loop-item-smaller-in_ok-push : goal.loop-item-smaller-in_ok-push
loop-item-smaller-in_ok-push c = grind (arith, common_steps)

pub loop-item-preserved-in_ok-push : goal.loop-item-preserved-in_ok-push
loop-item-preserved-in_ok-push c = grind (arith, common_steps)

pub returns-in_err-push : goal.returns-in_err-push
returns-in_err-push c = grind (arith, common_steps)

pub loop-item-smaller : goal.loop-item-smaller
loop-item-smaller c = grind (arith, common_steps)

pub loop-item-preserved : goal.loop-item-preserved
loop-item-preserved c = grind (arith, common_steps)

pub returns : goal.returns
returns c = grind (arith, common_steps)
