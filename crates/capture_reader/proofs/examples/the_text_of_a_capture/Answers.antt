use Rattle.std.proofs.Common.{refl}
use Rattle.std.specs.Fmt.{digits}
use Rattle.capture_reader.proofs.examples.the_text_of_a_capture.Goals as goal

pub returns-clause-empty : goal.returns-clause-empty
unfolding digits
returns-clause-empty c = refl

pub returns-clause-bytes : goal.returns-clause-bytes
unfolding digits
returns-clause-bytes c = refl
