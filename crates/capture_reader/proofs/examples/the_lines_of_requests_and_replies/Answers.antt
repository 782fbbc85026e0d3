use Rattle.std.proofs.Common.{refl}
use Rattle.std.specs.Fmt.{digits}
use Rattle.capture_reader.proofs.examples.the_lines_of_requests_and_replies.Goals as goal

pub returns-clause-write : goal.returns-clause-write
unfolding digits
returns-clause-write c = refl

pub returns-clause-rmw_bits : goal.returns-clause-rmw_bits
unfolding digits
returns-clause-rmw_bits c = refl

pub returns-clause-rmw_sum : goal.returns-clause-rmw_sum
unfolding digits
returns-clause-rmw_sum c = refl

pub returns-clause-failed : goal.returns-clause-failed
unfolding digits
returns-clause-failed c = refl
