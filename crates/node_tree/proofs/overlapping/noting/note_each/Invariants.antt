use Rattle.std.proofs.Common.{take}
use Rattle.node_tree.specs.Named.{named_entries}
use Rattle.node_tree.specs.OverlapSearch.{IsNoted}
use Rattle.node_tree.proofs.overlapping.noting.note_each.Given as goal

abbrev pub invariant-loop-place : goal.invariant-loop-place
invariant-loop-place l = IsNoted (named_entries l.entries) l.initial.firsts l.firsts (take l.place-index l.earlier) l.later
