use Rattle.std.proofs.Common.{refl}
use Rattle.std.specs.Fmt.{digits}
use Rattle.transaction_codec.specs.Request.{request_at}
use Rattle.transaction_codec.specs.Reply.{reply_at}
use Rattle.transcript.proofs.examples.three_pieces_in_two_bodies.Goals as goal

pub returns : goal.returns
unfolding digits request_at reply_at lib.Count.count_trailing_zeros
returns c = refl
