use Rattle.std.proofs.Common.{arith}
use Rattle.std.proofs.lemmas.Grind.{common_steps}
use Rattle.std.proofs.Common.{append_assoc}
use Rattle.run_audit.proofs.Walking.{drop_here}
use Rattle.run_audit.proofs.replaying.replies_of.Goals as goal

pub loop-placed-preserved : goal.loop-placed-preserved
loop-placed-preserved c =
    let rest = drop_here c.args.order.now c.loop-placed.placed-index c.placed-item.result c.loop-placed-test.true
    c.placed-item.is in
    let executed = c.in_ok-execute.ensures in
    record {
      replies = rw (
        c.in_ok-push.ensures.items,
        append_assoc,
        c.from_vec.ensures,
        executed.reply,
        executed.bus,
        c.new-words.ensures.items,
        c.as_slice.ensures,
      )
          (rw rest at c.loop-placed.invariant.replies);
      short = (rw rest at c.loop-placed.invariant.short).1;
    }

pub execute-requires : goal.execute-requires
execute-requires c = grind (arith, common_steps)

pub returns : goal.returns
returns c = grind (arith, common_steps)
