use Rattle.std.proofs.Common.{◌≡◌, take}
use Rattle.transaction_codec.specs.Reply.{replies_words}
use Rattle.transaction_codec.proofs.writing.write_replies.Given as goal

abbrev pub invariant-loop-reply : goal.invariant-loop-reply
invariant-loop-reply l = l.out.items ≡ replies_words (take l.reply-index l.list)
