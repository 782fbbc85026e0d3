use Rattle.std.proofs.Common.{refl}
use Rattle.std.specs.Fmt.{digits}
use Rattle.transaction_codec.specs.Request.{request_at}
use Rattle.transaction_codec.specs.Reply.{reply_at}
use Rattle.transcript.proofs.examples.late_answers_that_failed.Goals as goal

pub returns-clause-failed : goal.returns-clause-failed
unfolding digits request_at reply_at lib.Count.count_trailing_zeros
returns-clause-failed c = refl

pub returns-clause-garbled : goal.returns-clause-garbled
unfolding digits request_at reply_at lib.Count.count_trailing_zeros
returns-clause-garbled c = refl
