use Rattle.std.proofs.Common.{take}
use Rattle.node_tree.proofs.SettlingLemmas.{IsPass}
use Rattle.node_tree.proofs.overlapping.settling.settle_where.Given as goal

abbrev pub invariant-loop-event : goal.invariant-loop-event
invariant-loop-event l = IsPass l.put l.asking (take l.event-index l.events) l.initial.firsts l.firsts l.least
