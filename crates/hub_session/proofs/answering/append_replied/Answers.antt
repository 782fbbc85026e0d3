use Rattle.hub_session.proofs.Packets.{replied_behind}
use Rattle.hub_session.proofs.Results.{on_ok_follows}
use Rattle.hub_session.proofs.answering.append_replied.Goals as goal

pub returns : goal.returns
returns c = on_ok_follows c.append_packet.result c.append_packet.ensures.spelling
    (λ packet. replied_behind c.args.out.now.items c.append_reply_head.new.out.items c.append_packet.new.out.items
    c.args.board c.args.order c.args.id c.args.words.now c.in_ok-append_reply_head.ensures.appended packet)
