use Rattle.hub_multiplexer.proofs.Adds.{begun_of, may_give_begun}
use Rattle.hub_multiplexer.proofs.calls.begin.Goals as goal

pub returns-clause-begun : goal.returns-clause-begun
returns-clause-begun g c =
    let taken = c.take-value.ensures in
    begun_of g.V.AtHub.manner c.args.client c.args.pass.now c.take-value.new.pass c.give.new.pass _ _
    c.begin_on-begun.ensures c.requires.idle.1 taken.told taken.vain taken.taken c.give.ensures

pub give-requires-clause-grows : goal.give-requires-clause-grows
give-requires-clause-grows g c κs within =
    may_give_begun g.V.AtHub.manner c.args.client c.args.pass.now c.take-value.new.pass _ _
    c.take-value.new.pass.knows.vain c.begin_on-begun.ensures c.take-value.ensures.taken c.requires.idle.1
