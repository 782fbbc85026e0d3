use Rattle.transaction_codec.specs.Reply.{reply_words}
use Rattle.transaction_codec.proofs.OneMore.{written_more}
use Rattle.transaction_codec.proofs.writing.write_replies.Goals as goal

pub loop-reply-preserved : goal.loop-reply-preserved
loop-reply-preserved c =
    written_more reply_words c.args.list.now c.loop-reply.reply-index c.reply-item.result c.loop-reply.out.items
    c.put_reply.new.out.items c.loop-reply-test.true c.reply-item.is c.loop-reply.invariant
    c.in_ok-put_reply.ensures.appended
