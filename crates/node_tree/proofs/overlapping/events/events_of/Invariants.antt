use Rattle.node_tree.specs.Named.{named_entries}
use Rattle.node_tree.specs.OverlapSearch.{IsTimeline, Lowers, AreNoted}
use Rattle.node_tree.proofs.overlapping.events.events_of.Given as goal

abbrev pub invariant-loop-place : goal.invariant-loop-place
invariant-loop-place l = record {
  timeline : IsTimeline (named_entries l.entries) l.place l.open_places.items l.events.items;
  lowers : Lowers (named_entries l.entries) l.initial.firsts l.firsts;
  noted : AreNoted (named_entries l.entries) l.firsts l.events.items l.place;
}
