use Rattle.std.proofs.Common.{refl}
use Rattle.ipb_base.specs.Digits.{digit_value}
use Rattle.script_lang.specs.Texts.{endpoint}
use Rattle.script_lang.proofs.laws.addresses_with_ports.Goals as goal

pub returns-clause-read : goal.returns-clause-read
unfolding endpoint digit_value
returns-clause-read c = refl

pub returns-clause-large : goal.returns-clause-large
unfolding endpoint digit_value
returns-clause-large c = refl

pub returns-clause-zero : goal.returns-clause-zero
unfolding endpoint digit_value
returns-clause-zero c = refl
