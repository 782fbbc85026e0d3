use Rattle.std.proofs.Common.{arith}
use Rattle.std.proofs.lemmas.Grind.{elements}
use Rattle.run_audit.proofs.run_pieces.planned_at.Goals as goal

pub returns-in_err-run : goal.returns-in_err-run
returns-in_err-run c = grind (arith, elements)

pub returns-in_err-part : goal.returns-in_err-part
returns-in_err-part c = grind (arith, elements)

pub returns : goal.returns
returns c = grind (arith, elements)
