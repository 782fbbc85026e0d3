use Rattle.std.proofs.Common.{vec_len}
use Rattle.node_tree.specs.CycleSearch.{KeepsNames}
use Rattle.node_tree.proofs.cycles.ranking.rank_pending.Given as goal

abbrev pub invariant-members : goal.invariant-members
invariant-members l = KeepsNames l.initial.ranking.ranks l.ranking.ranks

abbrev pub decreases-members : goal.decreases-members
decreases-members l = vec_len l.ranking.pending
