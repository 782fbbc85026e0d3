use Rattle.std.proofs.Common.{arith}
use Rattle.std.proofs.lemmas.Grind.{common_steps}
use Rattle.script_lang.proofs.compile.asked.Goals as goal

pub returns-in-Ok-clause-step : goal.returns-in-Ok-clause-step
returns-in-Ok-clause-step c = grind (arith, common_steps)

pub returns-in_default-clause-step : goal.returns-in_default-clause-step
returns-in_default-clause-step c = grind (arith, common_steps)

pub returns-in_default-register_at-clause-step : goal.returns-in_default-register_at-clause-step
returns-in_default-register_at-clause-step c = grind (arith, common_steps)
