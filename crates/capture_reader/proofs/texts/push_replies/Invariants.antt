use Rattle.std.proofs.Common.{length}
use Rattle.transaction_codec.specs.Reply.{reply_words, IsReply}
use Rattle.capture_reader.specs.Rows.{reply_text}
use Rattle.capture_reader.proofs.AddedLines.{IsWritten}
use Rattle.capture_reader.proofs.texts.push_replies.Given as goal

abbrev pub invariant-loop-rest : goal.invariant-loop-rest
invariant-loop-rest l = IsWritten reply_words IsReply reply_text l.words l.fn.out.items l.out.items l.rest

abbrev pub decreases-loop-rest : goal.decreases-loop-rest
decreases-loop-rest l = length l.rest
