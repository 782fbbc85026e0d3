use Rattle.capture_reader.proofs.OneText.{same_row}
use Rattle.capture_reader.proofs.laws.a_datagram_is_of_one_row.Goals as goal

pub returns : goal.returns
returns c = same_row
