use Rattle.capture_reader.proofs.FirstLine.{same_text}
use Rattle.capture_reader.proofs.laws.a_text_is_of_one_capture.Goals as goal

pub returns : goal.returns
returns c = same_text
