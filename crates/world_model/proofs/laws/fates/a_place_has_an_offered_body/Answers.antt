use Rattle.world_model.proofs.Accounts.{offered_there}
use Rattle.world_model.proofs.laws.fates.a_place_has_an_offered_body.Goals as goal

pub returns : goal.returns
returns c = offered_there
