use Rattle.mtu_packer.proofs.Whole.{Underway}
use Rattle.mtu_packer.proofs.packing.push_ops.Given as goal

abbrev pub invariant-loop-op : goal.invariant-loop-op
invariant-loop-op l = Underway l.ops l.fn.packer.payload l.op-index l.packer l.spans.items l.start
