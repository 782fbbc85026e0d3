use Rattle.std.proofs.Common.{arith}
use Rattle.std.proofs.lemmas.Grind.{common_steps}
use Rattle.script_lang.proofs.compile.next_step.Goals as goal

pub returns-in-Some-clause-next : goal.returns-in-Some-clause-next
returns-in-Some-clause-next c = grind (arith, common_steps)

pub returns-in-Some-clause-within : goal.returns-in-Some-clause-within
returns-in-Some-clause-within c = grind (arith, common_steps)

pub returns-in-Some-clause-counted : goal.returns-in-Some-clause-counted
returns-in-Some-clause-counted c = grind (arith, common_steps)

pub returns-in-Some-clause-packed : goal.returns-in-Some-clause-packed
returns-in-Some-clause-packed c = grind (arith, common_steps)

pub returns-in-None-clause-stopped : goal.returns-in-None-clause-stopped
returns-in-None-clause-stopped c = grind (arith, common_steps)

pub returns-in-Ok-Err-clause-stopped : goal.returns-in-Ok-Err-clause-stopped
returns-in-Ok-Err-clause-stopped c = grind (arith, common_steps)
