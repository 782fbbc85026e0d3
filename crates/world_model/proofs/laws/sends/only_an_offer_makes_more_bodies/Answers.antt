use Rattle.world_model.proofs.Bodies.{offered_bodies, sent_bodies, message_bodies, quiet_bodies}
use Rattle.world_model.proofs.laws.sends.only_an_offer_makes_more_bodies.Goals as goal

pub returns-clause-offered : goal.returns-clause-offered
returns-clause-offered c = offered_bodies

pub returns-clause-sent : goal.returns-clause-sent
returns-clause-sent c = sent_bodies

pub returns-clause-message : goal.returns-clause-message
returns-clause-message c = message_bodies

pub returns-clause-quiet : goal.returns-clause-quiet
returns-clause-quiet c = quiet_bodies
