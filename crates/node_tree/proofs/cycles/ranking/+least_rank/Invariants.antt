use Rattle.std.proofs.Common.{◌≤◌}
use Rattle.node_tree.proofs.cycles.ranking.+least_rank.Given as goal

abbrev pub invariant-loop-node : goal.invariant-loop-node
invariant-loop-node l = l.least ≤ l.initial.least
