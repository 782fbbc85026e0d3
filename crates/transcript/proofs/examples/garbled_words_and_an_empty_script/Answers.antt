use Rattle.std.proofs.Common.{refl}
use Rattle.std.specs.Fmt.{digits}
use Rattle.transaction_codec.specs.Request.{request_at}
use Rattle.transaction_codec.specs.Reply.{reply_at}
use Rattle.transcript.proofs.examples.garbled_words_and_an_empty_script.Goals as goal

pub returns-clause-garbled : goal.returns-clause-garbled
unfolding digits request_at reply_at lib.Count.count_trailing_zeros
returns-clause-garbled c = refl

pub returns-clause-empty : goal.returns-clause-empty
unfolding digits request_at reply_at lib.Count.count_trailing_zeros
returns-clause-empty c = refl
