use Rattle.std.proofs.Common.{ap, ◌∙◌, arith}
use Rattle.std.proofs.Math.Seq.{map-set_same}
use Rattle.hub_multiplexer.proofs.bell.bells_of.Goals as goal

pub loop-i-preserved : goal.loop-i-preserved
loop-i-preserved g c =
    let entries = g.V.Chronicle.entries in (
      map-set_same entries c.loop-i.values.items c.loop-i.i c.bell_of.new.value c.index_mut.result.now
          (c.bell_of.ensures ∙ ap entries c.index_mut.ensures.value)
          ∙ c.loop-i.invariant.0,
      c.loop-i.invariant.1,
      omega (arith, c.push_reserved.ensures.len, c.loop-i.invariant.2),
      omega (arith, c.push_reserved.ensures.capacity, c.loop-i.invariant.3),
    )
