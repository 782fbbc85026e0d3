use Rattle.std.proofs.Common.{take}
use Rattle.node_tree.proofs.SettlingLemmas.{IsQuiet}
use Rattle.node_tree.proofs.overlapping.settling.has_none_to_settle.Given as goal

abbrev pub invariant-loop-event : goal.invariant-loop-event
invariant-loop-event l = IsQuiet (take l.event-index l.events) l.is_put
