use Rattle.std.proofs.Common.{refl, [], lit<}
use Rattle.packet_codec.proofs.PacketLemmas.{no_little_status}
use Rattle.packet_codec.proofs.laws.headers_that_are_refused.Goals as goal

pub returns-clause-unknown : goal.returns-clause-unknown
returns-clause-unknown c = (3, lit< tt, lit< tt, record { id = 1; id_fits = lit< tt; begins = ([], refl) })

pub returns-clause-little_endian_status : goal.returns-clause-little_endian_status
returns-clause-little_endian_status c = no_little_status
