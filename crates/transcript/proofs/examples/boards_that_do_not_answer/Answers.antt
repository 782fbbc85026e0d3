use Rattle.std.proofs.Common.{refl}
use Rattle.std.specs.Fmt.{digits}
use Rattle.transaction_codec.specs.Request.{request_at}
use Rattle.transaction_codec.specs.Reply.{reply_at}
use Rattle.transcript.proofs.examples.boards_that_do_not_answer.Goals as goal

pub returns-clause-silent : goal.returns-clause-silent
unfolding digits request_at reply_at lib.Count.count_trailing_zeros
returns-clause-silent c = refl

pub returns-clause-down : goal.returns-clause-down
unfolding digits request_at reply_at lib.Count.count_trailing_zeros
returns-clause-down c = refl

pub returns-clause-lost : goal.returns-clause-lost
unfolding digits request_at reply_at lib.Count.count_trailing_zeros
returns-clause-lost c = refl

pub returns-clause-before : goal.returns-clause-before
unfolding digits request_at reply_at lib.Count.count_trailing_zeros
returns-clause-before c = refl
