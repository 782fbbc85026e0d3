use Rattle.std.proofs.Common.{◌∙◌, sym}
use Rattle.board_node.proofs.Finding.{with_id_here, with_id_past, with_id_none}
use Rattle.board_node.proofs.replies.find_reply.Goals as goal

pub returns-then-reply-id-clause-found : goal.returns-then-reply-id-clause-found
returns-then-reply-id-clause-found c =
    sym (with_id_here c.args.id c.args.replies.now c.loop-reply.reply-index c.reply-item.result c.loop-reply-test.true
    c.reply-item.is c.if-reply-id.true) ∙ c.loop-reply.invariant

pub loop-reply-preserved : goal.loop-reply-preserved
loop-reply-preserved c =
    sym (with_id_past c.args.id c.args.replies.now c.loop-reply.reply-index c.reply-item.result c.loop-reply-test.true
    c.reply-item.is c.if-reply-id.false) ∙ c.loop-reply.invariant

pub returns-clause-found : goal.returns-clause-found
returns-clause-found c =
    sym (with_id_none c.args.id c.args.replies.now c.loop-reply.reply-index c.loop-reply-test.false)
    ∙ c.loop-reply.invariant
