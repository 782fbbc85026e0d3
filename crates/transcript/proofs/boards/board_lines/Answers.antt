use Rattle.std.proofs.Common.{arith}
use Rattle.std.proofs.lemmas.Grind.{common_steps}
use Rattle.transcript.proofs.boards.board_lines.Goals as goal

pub loop-run-preserved : goal.loop-run-preserved
loop-run-preserved c = (
  grind (arith, common_steps),
  omega (arith, c.push_reserved.ensures.len, c.loop-run.invariant.1),
  omega (arith, c.push_reserved.ensures.capacity, c.loop-run.invariant.2),
)

pub returns : goal.returns
returns c = grind (arith, common_steps)
