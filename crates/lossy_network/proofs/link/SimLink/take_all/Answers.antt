use Rattle.std.proofs.Common.{◌∙◌, sym}
use Rattle.lossy_network.proofs.Takings.{all_after_one, some_then, taken_is_less}
use Rattle.lossy_network.proofs.link.SimLink.take_all.Goals as goal

pub loop-smaller : goal.loop-smaller
loop-smaller c =
    let one = rw c.if-not-branch.false at c.in_ok-take_front.ensures.taken in
    taken_is_less c.loop.self c.take_front.new.self one.0 one.1

pub loop-preserved : goal.loop-preserved
loop-preserved c =
    let one = rw c.if-not-branch.false at c.in_ok-take_front.ensures.taken in (
      sym (all_after_one c.loop.self c.take_front.new.self one.0 one.1) ∙ c.loop.invariant.0,
      some_then c.args.self.now c.loop.self c.take_front.new.self one.0 c.loop.invariant.1 one.1,
    )
