use Rattle.config_store.proofs.Puts.{others_stay, own_shows}
use Rattle.config_store.proofs.laws.values_under_masks_that_are_apart_stay_apart.Goals as goal

pub returns-clause-others : goal.returns-clause-others
returns-clause-others c = others_stay

pub returns-clause-own : goal.returns-clause-own
returns-clause-own c = own_shows
