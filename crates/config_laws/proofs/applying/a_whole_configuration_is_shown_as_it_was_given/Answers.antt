use Rattle.config_laws.proofs.Whole.{shown_as_given}
use Rattle.config_laws.proofs.applying.a_whole_configuration_is_shown_as_it_was_given.Goals as goal

pub returns : goal.returns
returns c = shown_as_given
