use Rattle.std.proofs.Common.{refl}
use Rattle.std.specs.Fmt.{digits}
use Rattle.config_laws.proofs.examples.a_configuration_of_one_value_has_this_text.Goals as goal

pub returns : goal.returns
unfolding digits
returns c = refl
