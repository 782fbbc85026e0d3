use Rattle.capture_reader.proofs.OneText.{one_description, one_capture}
use Rattle.capture_reader.proofs.laws.a_capture_has_one_description.Goals as goal

pub returns-clause-one : goal.returns-clause-one
returns-clause-one c = one_description

pub returns-clause-shared : goal.returns-clause-shared
returns-clause-shared c = one_capture
