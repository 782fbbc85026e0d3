use Rattle.std.proofs.Common.{refl}
use Rattle.std.specs.Fmt.{digits}
use Rattle.transaction_codec.specs.Request.{request_at}
use Rattle.transaction_codec.specs.Reply.{reply_at}
use Rattle.transcript.proofs.examples.late_answers.Goals as goal

pub returns-clause-write : goal.returns-clause-write
unfolding digits request_at reply_at lib.Count.count_trailing_zeros
returns-clause-write c = refl

pub returns-clause-block : goal.returns-clause-block
unfolding digits request_at reply_at lib.Count.count_trailing_zeros
returns-clause-block c = refl

pub returns-clause-masked : goal.returns-clause-masked
unfolding digits request_at reply_at lib.Count.count_trailing_zeros
returns-clause-masked c = refl

pub returns-clause-sum : goal.returns-clause-sum
unfolding digits request_at reply_at lib.Count.count_trailing_zeros
returns-clause-sum c = refl

pub returns-clause-status : goal.returns-clause-status
unfolding digits request_at reply_at lib.Count.count_trailing_zeros
returns-clause-status c = refl
