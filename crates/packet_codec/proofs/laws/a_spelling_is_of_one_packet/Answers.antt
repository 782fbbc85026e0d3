use Rattle.packet_codec.proofs.PacketLemmas.{one_packet}
use Rattle.packet_codec.proofs.laws.a_spelling_is_of_one_packet.Goals as goal

pub returns : goal.returns
returns c = one_packet
