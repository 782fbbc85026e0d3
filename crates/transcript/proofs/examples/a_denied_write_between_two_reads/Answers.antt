use Rattle.std.proofs.Common.{refl}
use Rattle.std.specs.Fmt.{digits}
use Rattle.transaction_codec.specs.Request.{request_at}
use Rattle.transaction_codec.specs.Reply.{reply_at}
use Rattle.transcript.proofs.examples.a_denied_write_between_two_reads.Goals as goal

pub returns-clause-text : goal.returns-clause-text
unfolding digits request_at reply_at lib.Count.count_trailing_zeros
returns-clause-text c = refl

pub returns-clause-status : goal.returns-clause-status
unfolding digits request_at reply_at lib.Count.count_trailing_zeros
returns-clause-status c = refl

pub returns-clause-silent : goal.returns-clause-silent
unfolding digits request_at reply_at lib.Count.count_trailing_zeros
returns-clause-silent c = refl
