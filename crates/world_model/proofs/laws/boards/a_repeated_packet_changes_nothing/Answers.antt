use Rattle.world_model.proofs.BoardTurns.{repeated}
use Rattle.world_model.proofs.laws.boards.a_repeated_packet_changes_nothing.Goals as goal

pub returns : goal.returns
returns c = λ board datagram between order id body first said not heard few.
    repeated board datagram between order id body first.from_one said not heard few
