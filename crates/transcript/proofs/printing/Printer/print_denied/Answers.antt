use Rattle.std.proofs.Common.{arith}
use Rattle.std.proofs.lemmas.Grind.{elements, common_steps}
use Rattle.transcript.proofs.printing.Printer.print_denied.Goals as goal

pub returns-in_default-clause-lines : goal.returns-in_default-clause-lines
returns-in_default-clause-lines c = grind (arith, elements)

pub returns-in_default-clause-number : goal.returns-in_default-clause-number
returns-in_default-clause-number c = grind (arith, common_steps)

pub returns-in_default-clause-counts : goal.returns-in_default-clause-counts
returns-in_default-clause-counts c = grind (arith, common_steps)

pub returns-clause-number : goal.returns-clause-number
returns-clause-number c = grind (arith, common_steps)

pub returns-clause-counts : goal.returns-clause-counts
returns-clause-counts c = grind (arith, common_steps)
