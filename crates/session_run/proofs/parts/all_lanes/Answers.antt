use Rattle.std.proofs.Common.{arith}
use Rattle.std.proofs.lemmas.Grind.{common_steps}
use Rattle.session_run.proofs.parts.all_lanes.Goals as goal

pub loop-client-init : goal.loop-client-init
loop-client-init c = grind (arith, common_steps)

pub loop-client-preserved : goal.loop-client-preserved
loop-client-preserved c = (
  grind (arith, common_steps),
  grind (arith, common_steps),
  omega (arith, c.push_reserved.ensures.capacity, c.loop-client.invariant.2),
)

pub returns : goal.returns
returns c = grind (arith, common_steps)
