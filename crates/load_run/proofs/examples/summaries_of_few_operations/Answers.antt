use Rattle.std.proofs.Common.{refl}
use Rattle.std.specs.Fmt.{digits}
use Rattle.transaction_codec.specs.Request.{request_at}
use Rattle.transaction_codec.specs.Reply.{reply_at}
use Rattle.load_run.proofs.examples.summaries_of_few_operations.Goals as goal

pub returns-clause-one : goal.returns-clause-one
unfolding digits request_at reply_at
returns-clause-one c = refl

pub returns-clause-five : goal.returns-clause-five
unfolding digits request_at reply_at
returns-clause-five c = refl
