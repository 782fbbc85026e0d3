use Rattle.std.proofs.Common.{arith}
use Rattle.node_tree.proofs.overlapping.events.event_of.Goals as goal

pub returns-clause-word : goal.returns-clause-word
returns-clause-word c = omega (arith, c.mask_of.type_inv, c.mask_of.ensures)
