use Rattle.std.proofs.Common.{arith}
use Rattle.std.proofs.lemmas.Grind.{common_steps}
use Rattle.transcript.proofs.lines.lines_of_clients.Goals as goal

pub loop-client-preserved : goal.loop-client-preserved
loop-client-preserved c = (
  grind (arith, common_steps),
  omega (arith, c.push_reserved.ensures.len, c.loop-client.invariant.1),
  omega (arith, c.push_reserved.ensures.capacity, c.loop-client.invariant.2),
)

pub returns : goal.returns
returns c = grind (arith, common_steps)
