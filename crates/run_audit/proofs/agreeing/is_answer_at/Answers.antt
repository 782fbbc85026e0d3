use Rattle.std.proofs.Common.{arith}
use Rattle.std.proofs.lemmas.Grind.{elements}
use Rattle.run_audit.proofs.agreeing.is_answer_at.Goals as goal

pub returns-in-Some-Values : goal.returns-in-Some-Values
returns-in-Some-Values c = grind (arith, elements)

pub returns-in-Some-Done : goal.returns-in-Some-Done
returns-in-Some-Done c = grind (arith, elements)

pub returns-in-Some-Fault : goal.returns-in-Some-Fault
returns-in-Some-Fault c = grind (arith, elements)

pub returns-in-Some-Skipped : goal.returns-in-Some-Skipped
returns-in-Some-Skipped c = grind (arith, elements)

pub returns-in-None : goal.returns-in-None
returns-in-None c = grind (arith, elements)
