use Rattle.hub_session.proofs.Connections.{nothing_held}
use Rattle.hub_session.proofs.session.end_of_input.Goals as goal

pub returns-then-rest-eq0-clause-ends : goal.returns-then-rest-eq0-clause-ends
returns-then-rest-eq0-clause-ends c =
    nothing_held c.args.framer.now c.rest.result c.requires c.rest.ensures.only c.if-rest-eq0.true
