use Rattle.config_input.proofs.Values.{values_small}
use Rattle.config_input.proofs.laws.values_of_a_state_are_words.Goals as goal

pub returns : goal.returns
returns c = values_small
