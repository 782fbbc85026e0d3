use Rattle.world_model.proofs.Links.{greeting_joined}
use Rattle.world_model.proofs.laws.links.a_greeting_joins.Goals as goal

pub returns : goal.returns
returns c = greeting_joined c.laws_below.ensures
