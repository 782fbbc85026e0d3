use Rattle.config_laws.proofs.OneValue.{none_other, one_given}
use Rattle.config_laws.proofs.examples.a_given_value_is_shown_and_no_other.Goals as goal

pub returns-clause-given : goal.returns-clause-given
returns-clause-given c = one_given

pub returns-clause-other : goal.returns-clause-other
returns-clause-other c = none_other
