use Rattle.std.proofs.Common.{◌≡◌, [], ◌++◌, take, drop}
use Rattle.node_tree.specs.Named.{named_entries}
use Rattle.node_tree.specs.Overlaps.{overlapping}
use Rattle.node_tree.proofs.overlapping.overlapping_pairs.Given as goal

abbrev pub invariant-loop-i : goal.invariant-loop-i
invariant-loop-i l =
    l.pairs.items ++ overlapping (take l.i (named_entries l.entries)) (drop l.i (named_entries l.entries))
    ≡ overlapping [] (named_entries l.entries)
