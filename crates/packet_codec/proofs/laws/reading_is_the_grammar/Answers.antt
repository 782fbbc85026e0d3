use Rattle.packet_codec.proofs.WordLemmas.{are_bytes}
use Rattle.packet_codec.proofs.PacketLemmas.{packet_again, packet_back}
use Rattle.packet_codec.proofs.HeaderLemmas.{header_again, header_back}
use Rattle.packet_codec.proofs.laws.reading_is_the_grammar.Goals as goal

pub returns-clause-again : goal.returns-clause-again
returns-clause-again c = packet_again

pub returns-clause-found : goal.returns-clause-found
returns-clause-found c = λ bytes packet fits read. packet_back bytes packet (are_bytes bytes fits) read

pub returns-clause-header : goal.returns-clause-header
returns-clause-header c = header_again

pub returns-clause-header_found : goal.returns-clause-header_found
returns-clause-header_found c = λ word header read. (header_back word header read).spelled
