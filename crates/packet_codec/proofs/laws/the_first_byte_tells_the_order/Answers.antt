use Rattle.packet_codec.proofs.PacketLemmas.{first_byte_big, first_byte_little}
use Rattle.packet_codec.proofs.laws.the_first_byte_tells_the_order.Goals as goal

pub returns-clause-big : goal.returns-clause-big
returns-clause-big c = first_byte_big

pub returns-clause-little : goal.returns-clause-little
returns-clause-little c = first_byte_little
