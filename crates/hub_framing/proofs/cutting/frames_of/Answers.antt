use Rattle.std.proofs.Common.{arith}
use Rattle.std.proofs.lemmas.Grind.{common_steps}
use Rattle.hub_framing.proofs.cutting.frames_of.Goals as goal

pub cutting-preserved : goal.cutting-preserved
cutting-preserved c = grind (arith, common_steps)

pub returns-clause-rest : goal.returns-clause-rest
returns-clause-rest c = grind (arith, common_steps)
