use Rattle.std.proofs.Common.{drop}
use Rattle.node_tree.specs.Modules.{HasAll}
use Rattle.node_tree.proofs.check_modules.+has_modules.Given as goal

abbrev pub invariant-loop-node : goal.invariant-loop-node
invariant-loop-node g l = HasAll l.known (drop l.node-index l.nodes) → HasAll l.known l.nodes
