use Rattle.std.proofs.Common.{refl}
use Rattle.std.specs.Fmt.{digits}
use Rattle.capture_reader.proofs.examples.the_rows_of_a_capture.Goals as goal

pub returns-clause-status_request : goal.returns-clause-status_request
unfolding digits
returns-clause-status_request c = refl

pub returns-clause-status : goal.returns-clause-status
unfolding digits
returns-clause-status c = refl

pub returns-clause-requests : goal.returns-clause-requests
unfolding digits
returns-clause-requests c = refl

pub returns-clause-replies : goal.returns-clause-replies
unfolding digits
returns-clause-replies c = refl

pub returns-clause-resend : goal.returns-clause-resend
unfolding digits
returns-clause-resend c = refl

pub returns-clause-empty : goal.returns-clause-empty
unfolding digits
returns-clause-empty c = refl
