use Rattle.std.proofs.Common.{refl}
use Rattle.std.specs.Fmt.{digits}
use Rattle.ipbus_program.proofs.check_examples.a_listing.Goals as goal

pub returns : goal.returns
unfolding digits
returns c = refl
