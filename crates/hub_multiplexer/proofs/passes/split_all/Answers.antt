use Rattle.std.proofs.Common.{length, ap, ◌∙◌, arith}
use Rattle.std.proofs.lemmas.Grind.{common_steps}
use Rattle.std.proofs.lemmas.List.{length-map}
use Rattle.turn_pass.specs.Pass.{PassState}
use Rattle.hub_multiplexer.specs.Seats.{after_split, split_off}
use Rattle.hub_multiplexer.proofs.Lists.{mapped_and_pushed}
use Rattle.hub_multiplexer.proofs.passes.split_all.Goals as goal

pub loop-i-preserved : goal.loop-i-preserved
loop-i-preserved g c =
    let long = ap length c.requires.turns in
    let all = mapped_and_pushed after_split split_off c.args.firsts.now.items c.loop-i.firsts.items c.loop-i.made.items
    c.push_reserved.new.self.items c.loop-i.i c.index_mut.result.now c.split.new.pass c.split.result
    c.loop-i.invariant.0 c.loop-i.invariant.1
    (omega (arith, long, c.loop-i-test.true, length-map c.args.firsts.now.items (λ (pass : PassState). pass.turn)))
    c.index_mut.ensures.value c.split.ensures.first c.split.ensures.made c.push_reserved.ensures.items in (
      all.0,
      all.1,
      omega (arith, c.push_reserved.ensures.len, c.loop-i.invariant.2),
      c.push_reserved.ensures.capacity ∙ c.loop-i.invariant.3,
    )

pub index_mut-requires : goal.index_mut-requires
index_mut-requires g c = grind (arith, common_steps)

pub split-requires : goal.split-requires
split-requires g c = grind (arith, common_steps)

pub returns-clause-firsts : goal.returns-clause-firsts
returns-clause-firsts g c = grind (arith, common_steps)

pub returns-clause-made : goal.returns-clause-made
returns-clause-made g c = grind (arith, common_steps)
