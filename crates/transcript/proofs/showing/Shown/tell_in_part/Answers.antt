use Rattle.std.proofs.Common.{arith}
use Rattle.std.proofs.lemmas.Grind.{elements}
use Rattle.transcript.proofs.showing.Shown.tell_in_part.Goals as goal

pub returns-in_default : goal.returns-in_default
returns-in_default c = grind (arith, elements)

pub returns-in_default-pieces : goal.returns-in_default-pieces
returns-in_default-pieces c = grind (arith, elements)

pub returns : goal.returns
returns c = grind (arith, elements)
