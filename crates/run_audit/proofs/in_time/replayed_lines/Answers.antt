use Rattle.std.proofs.Common.{append_assoc, arith}
use Rattle.std.proofs.lemmas.Grind.{common_steps}
use Rattle.run_audit.proofs.Walking.{drop_here}
use Rattle.run_audit.proofs.in_time.replayed_lines.Goals as goal

pub loop-client-preserved : goal.loop-client-preserved
loop-client-preserved c =
    let rest = drop_here c.args.scripts.now c.loop-client.client c.index-scripts-client.result c.loop-client-test.true
    c.index-scripts-client.is in
    rw (c.in_ok-append.ensures.items, append_assoc, c.in_ok-lines.ensures, c.as_slice.ensures)
    (rw rest at c.loop-client.invariant)

pub returns : goal.returns
returns c = grind (arith, common_steps)
