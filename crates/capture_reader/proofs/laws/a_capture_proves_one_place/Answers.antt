use Rattle.capture_reader.proofs.OneText.{one_place}
use Rattle.capture_reader.proofs.laws.a_capture_proves_one_place.Goals as goal

pub returns : goal.returns
returns c = one_place
