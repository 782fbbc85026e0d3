use Rattle.std.proofs.Common.{refl}
use Rattle.std.specs.Fmt.{digits}
use Rattle.transaction_codec.specs.Request.{request_at}
use Rattle.transaction_codec.specs.Reply.{reply_at}
use Rattle.transcript.proofs.examples.the_first_piece_that_is_not_done_is_shown.Goals as goal

pub returns-clause-second : goal.returns-clause-second
unfolding digits request_at reply_at lib.Count.count_trailing_zeros
returns-clause-second c = refl

pub returns-clause-first : goal.returns-clause-first
unfolding digits request_at reply_at lib.Count.count_trailing_zeros
returns-clause-first c = refl

pub returns-clause-replied : goal.returns-clause-replied
unfolding digits request_at reply_at lib.Count.count_trailing_zeros
returns-clause-replied c = refl
