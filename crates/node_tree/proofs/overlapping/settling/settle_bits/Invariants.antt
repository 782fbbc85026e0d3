use Rattle.node_tree.proofs.SettlingLemmas.{AreBits}
use Rattle.node_tree.proofs.overlapping.settling.settle_bits.Given as goal

abbrev pub invariant-loop-bit : goal.invariant-loop-bit
invariant-loop-bit l = AreBits l.events l.initial.firsts l.firsts l.bit
