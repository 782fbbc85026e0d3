use Rattle.std.proofs.Common.{◌≤◌}
use Rattle.node_tree.proofs.overlapping.settling.part_len.Given as goal

abbrev pub invariant-loop-event : goal.invariant-loop-event
invariant-loop-event l = l.count ≤ l.event-index
