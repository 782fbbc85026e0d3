use Rattle.std.proofs.Common.{arith}
use Rattle.std.proofs.lemmas.Grind.{common_steps}
use Rattle.script_lang.proofs.document.check_counts.Goals as goal

pub returns-clause-none : goal.returns-clause-none
returns-clause-none c = grind (arith, common_steps)

pub returns-clause-first : goal.returns-clause-first
returns-clause-first c = grind (arith, common_steps)
