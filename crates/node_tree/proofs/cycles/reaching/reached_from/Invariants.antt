use Rattle.std.proofs.Common.{◌+◌, vec_len}
use Rattle.std.specs.FinMap.{entries}
use Rattle.node_tree.specs.CycleSearch.{missing, names_of}
use Rattle.node_tree.proofs.ReachLemmas.{Searches}
use Rattle.node_tree.proofs.cycles.reaching.reached_from.Given as goal

abbrev pub invariant-reaching : goal.invariant-reaching
invariant-reaching l = Searches l.tables l.name l.reached (names_of l.pending.items)

-- the tables that were not reached yet, and those whose modules were not gone through
abbrev pub decreases-reaching : goal.decreases-reaching
decreases-reaching l = missing l.reached (entries l.tables) + vec_len l.pending
