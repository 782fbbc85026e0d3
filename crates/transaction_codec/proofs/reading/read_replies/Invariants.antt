use Rattle.std.proofs.Common.{length}
use Rattle.transaction_codec.specs.Reply.{reply_words, IsReply}
use Rattle.transaction_codec.proofs.ReadSoFar.{IsReadSoFar}
use Rattle.transaction_codec.proofs.reading.read_replies.Given as goal

abbrev pub invariant-loop-rest : goal.invariant-loop-rest
invariant-loop-rest l = IsReadSoFar reply_words IsReply l.words l.replies.items l.rest

abbrev pub decreases-loop-rest : goal.decreases-loop-rest
decreases-loop-rest l = length l.rest
