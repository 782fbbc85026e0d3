use Rattle.std.proofs.Common.{length}
use Rattle.node_tree.specs.Named.{named_entries}
use Rattle.node_tree.specs.OverlapSearch.{IsTimeline, Grows}
use Rattle.node_tree.proofs.overlapping.events.close.Given as goal

abbrev pub invariant-loop-earlier : goal.invariant-loop-earlier
invariant-loop-earlier l = record {
  timeline : IsTimeline (named_entries l.entries) l.place l.open_places.items l.events.items;
  grows : Grows l.initial.events.items l.events.items;
}

-- the entries that are open
abbrev pub decreases-loop-earlier : goal.decreases-loop-earlier
decreases-loop-earlier l = length l.open_places.items
