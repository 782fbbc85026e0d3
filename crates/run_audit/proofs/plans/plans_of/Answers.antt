use Rattle.std.proofs.Common.{append_assoc}
use Rattle.run_audit.proofs.Walking.{drop_here}
use Rattle.run_audit.proofs.ShortBodies.{one_more_short}
use Rattle.run_audit.proofs.plans.plans_of.Goals as goal

pub loop-board-preserved : goal.loop-board-preserved
loop-board-preserved c =
    let rest = drop_here c.args.boards.now c.loop-board.board c.index-boards-board.result c.loop-board-test.true
    c.index-boards-board.is in
    record {
      plans = rw (c.in_ok-push.ensures.items, append_assoc, c.in_ok-plans_on.ensures.plans)
          (rw rest at c.loop-board.invariant.plans);
      short = rw c.in_ok-push.ensures.items (one_more_short _ c.loop-board.plans.items c.in_ok-plans_on.field-0
          c.loop-board.invariant.short c.in_ok-plans_on.ensures.short);
    }
