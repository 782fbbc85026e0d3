use Rattle.std.proofs.Common.{◌≡◌, ◌++◌, drop, map}
use Rattle.board_history.specs.Order.{bodies_in}
use Rattle.run_audit.specs.Replaying as spec
use Rattle.run_audit.proofs.replaying.replies_of.Given as goal

-- the replies so far, and those that the bus will give
abbrev pub invariant-loop-placed : goal.invariant-loop-placed
invariant-loop-placed l = record {
  replies : l.replies.items ++ spec.replies_from l.bus (map spec.placed_of (drop l.placed-index l.order))
      ≡ spec.replies_from l.fn.bus (map spec.placed_of l.order);
  short : spec.AreShort (bodies_in (map spec.placed_of (drop l.placed-index l.order)));
}
