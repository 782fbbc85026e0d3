use Rattle.std.proofs.Common.{arith}
use Rattle.std.proofs.lemmas.Grind.{common_steps}
use Rattle.access_policy.proofs.permitting.judges_of_boards.Goals as goal

pub loop-board-preserved : goal.loop-board-preserved
loop-board-preserved c = grind (arith, common_steps)

pub returns : goal.returns
returns c = grind (arith, common_steps)
