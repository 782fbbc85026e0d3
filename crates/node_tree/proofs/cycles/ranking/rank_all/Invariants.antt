use Rattle.std.specs.FinMap.{entries}
use Rattle.node_tree.specs.CycleSearch.{missing}
use Rattle.node_tree.proofs.cycles.ranking.rank_all.Given as goal

-- the tables that were not entered yet
abbrev pub decreases-entering : goal.decreases-entering
decreases-entering l = missing l.ranking.ranks (entries l.tables)
