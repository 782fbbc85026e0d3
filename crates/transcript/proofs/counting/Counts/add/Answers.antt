use Rattle.std.proofs.Common.{arith}
use Rattle.std.proofs.lemmas.Grind.{common_steps, elements}
use Rattle.transcript.proofs.counting.Counts.add.Goals as goal

pub returns-then-board-len-clause-before : goal.returns-then-board-len-clause-before
returns-then-board-len-clause-before c = grind (arith, common_steps)

pub returns-then-board-len-clause-counts : goal.returns-then-board-len-clause-counts
returns-then-board-len-clause-counts c = grind (arith, common_steps)

pub overflow_add-before : goal.overflow_add-before
overflow_add-before c = grind (arith, elements)

pub returns-clause-before : goal.returns-clause-before
returns-clause-before c = grind (arith, common_steps)

pub returns-clause-counts : goal.returns-clause-counts
returns-clause-counts c = grind (arith, common_steps)
