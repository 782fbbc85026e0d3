use Rattle.config_store.proofs.OverlapNames.{names_of_pairs}
use Rattle.config_store.proofs.laws.overlapping_names_are_those_of_pairs.Goals as goal

pub returns : goal.returns
returns c = names_of_pairs
