use Rattle.std.proofs.Common.{arith}
use Rattle.node_tree.proofs.SettlingLemmas.{bits-none, bits-more, bits-all}
use Rattle.node_tree.proofs.overlapping.settling.settle_bits.Goals as goal

pub loop-bit-init : goal.loop-bit-init
loop-bit-init c = bits-none c.args.events.now c.args.firsts.now

pub loop-bit-preserved : goal.loop-bit-preserved
loop-bit-preserved c =
    bits-more c.args.events.now c.args.firsts.now c.loop-bit.firsts c.settle_where.new.firsts c.loop-bit.bit
    c.bit_of.result c.loop-bit-test.true c.bit_of.ensures c.settle_where.auto.firsts
    c.settle_where.ensures c.loop-bit.invariant

pub returns : goal.returns
returns c =
    λ first. bits-all c.args.events.now c.args.firsts.now c.loop-bit.firsts c.loop-bit.bit first
    (omega arith) c.loop-bit.invariant
