use Rattle.std.proofs.Common.{◌⊎◌, drop}
use Rattle.node_tree.specs.Named.{Name}
use Rattle.node_tree.specs.Modules.{Mentions, IsIn}
use Rattle.node_tree.specs.CycleSearch.{Opens, names_of}
use Rattle.node_tree.proofs.cycles.reaching.+reach_modules.Given as goal

abbrev pub invariant-loop-node : goal.invariant-loop-node
invariant-loop-node l = record {
  opens : Opens l.initial.reached l.reached (names_of l.initial.pending.items) (names_of l.pending.items)
      (Mentions l.nodes);
  added : (m : Name) → Mentions l.nodes m → IsIn l.reached m ⊎ Mentions (drop l.node-index l.nodes) m;
}
