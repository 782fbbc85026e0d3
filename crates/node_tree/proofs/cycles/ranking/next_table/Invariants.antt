use Rattle.std.proofs.Common.{vec_len}
use Rattle.node_tree.specs.CycleSearch.{KeepsNames}
use Rattle.node_tree.proofs.cycles.ranking.next_table.Given as goal

abbrev pub invariant-leaving : goal.invariant-leaving
invariant-leaving l = KeepsNames l.initial.ranking.ranks l.ranking.ranks

abbrev pub decreases-leaving : goal.decreases-leaving
decreases-leaving l = vec_len l.steps
