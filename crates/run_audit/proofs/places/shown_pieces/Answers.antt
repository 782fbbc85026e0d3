use Rattle.std.proofs.Common.{arith}
use Rattle.std.proofs.lemmas.Grind.{common_steps}
use Rattle.run_audit.proofs.places.shown_pieces.Goals as goal

pub loop-ask-preserved : goal.loop-ask-preserved
loop-ask-preserved c = grind (arith, common_steps)

pub returns : goal.returns
returns c = grind (arith, common_steps)
