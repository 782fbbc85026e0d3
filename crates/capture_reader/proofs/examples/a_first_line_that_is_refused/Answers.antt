use Rattle.std.proofs.Common.{inl, refl, codes}
use Rattle.capture_reader.specs.Reading.{first_at, first_in}
use Rattle.capture_reader.proofs.FirstLine.{no_first}
use Rattle.capture_reader.proofs.examples.a_first_line_that_is_refused.Goals as goal

pub returns : goal.returns
unfolding first_at first_in
returns c = inl (refl, refl, no_first (codes "first 0\n") refl)
