use Rattle.std.proofs.Common.{arith}
use Rattle.std.proofs.lemmas.Grind.{elements}
use Rattle.run_audit.proofs.agreeing.values_of.Goals as goal

pub returns-in_default : goal.returns-in_default
returns-in_default c = grind (arith, elements)

pub returns-in_default-told : goal.returns-in_default-told
returns-in_default-told c = grind (arith, elements)

pub returns-in-Some-Values : goal.returns-in-Some-Values
returns-in-Some-Values c = grind (arith, elements)

pub returns-in_default-get : goal.returns-in_default-get
returns-in_default-get c = grind (arith, elements)
