use Rattle.capture_reader.proofs.OneFault.{none, one}
use Rattle.capture_reader.proofs.laws.a_text_has_one_first_fault.Goals as goal

pub returns-clause-none : goal.returns-clause-none
returns-clause-none c = none

pub returns-clause-one : goal.returns-clause-one
returns-clause-one c = one
