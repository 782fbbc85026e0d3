use Rattle.transcript.proofs.Reading.{one_line}
use Rattle.transcript.proofs.laws.a_text_is_that_of_one_line.Goals as goal

pub returns : goal.returns
returns c = one_line
