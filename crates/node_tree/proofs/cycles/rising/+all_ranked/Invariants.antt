use Rattle.std.proofs.Common.{drop}
use Rattle.node_tree.specs.CycleSearch.{AllRanked}
use Rattle.node_tree.proofs.cycles.rising.+all_ranked.Given as goal

abbrev pub invariant-loop-node : goal.invariant-loop-node
invariant-loop-node l = AllRanked l.ranks l.least (drop l.node-index l.nodes) → AllRanked l.ranks l.least l.nodes
