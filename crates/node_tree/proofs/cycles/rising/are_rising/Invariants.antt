use Rattle.std.proofs.Common.{◌≡◌, List, ◌++◌}
use Rattle.std.specs.List.{AllByRecursion}
use Rattle.std.specs.FinMap.{entries}
use Rattle.address_table.specs.declared.nodes.Table.{Table}
use Rattle.node_tree.specs.Named.{Name, named_entries}
use Rattle.node_tree.proofs.CycleLemmas.{IsRising}
use Rattle.node_tree.proofs.cycles.rising.are_rising.Given as goal

abbrev pub invariant-loop-name : goal.invariant-loop-name
invariant-loop-name l =
    (done : List (Name × Table)) × (entries l.tables ≡ done ++ named_entries l.name-iterator)
    × AllByRecursion (IsRising l.ranks) done
