use Rattle.std.proofs.Common.{arith}
use Rattle.std.proofs.lemmas.Grind.{elements}
use Rattle.run_audit.proofs.agreeing.answers_piece.Goals as goal

pub returns-in_default : goal.returns-in_default
returns-in_default c = grind (arith, elements)

pub returns-in-Answered : goal.returns-in-Answered
returns-in-Answered c = grind (arith, elements)

pub returns-in_default-told : goal.returns-in_default-told
returns-in_default-told c = grind (arith, elements)
