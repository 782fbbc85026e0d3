use Rattle.std.proofs.Common.{refl}
use Rattle.std.specs.Fmt.{digits}
use Rattle.transaction_codec.specs.Request.{request_at}
use Rattle.transaction_codec.specs.Reply.{reply_at}
use Rattle.transcript.proofs.examples.listings.Goals as goal

pub returns-clause-channel : goal.returns-clause-channel
unfolding digits request_at reply_at lib.Count.count_trailing_zeros
returns-clause-channel c = refl

pub returns-clause-overlapping : goal.returns-clause-overlapping
unfolding digits request_at reply_at lib.Count.count_trailing_zeros
returns-clause-overlapping c = refl
