use Rattle.world_model.proofs.HeldReplies.{sent_again}
use Rattle.world_model.proofs.laws.boards.a_reply_is_sent_again_as_it_was.Goals as goal

pub returns : goal.returns
returns c = λ board datagram between order id body request first buffers said not heard asked recent.
    sent_again board datagram between order id body request first.from_one buffers.1 said not heard asked recent
