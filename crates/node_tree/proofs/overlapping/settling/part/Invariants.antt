use Rattle.std.proofs.Common.{take}
use Rattle.node_tree.specs.OverlapSearch.{GoesOn, IsPart}
use Rattle.node_tree.proofs.overlapping.settling.part.Given as goal

abbrev pub invariant-loop-event : goal.invariant-loop-event
invariant-loop-event l = IsPart (GoesOn l.covers l.first l.«end») (take l.event-index l.events) l.some.items
