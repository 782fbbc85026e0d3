use Rattle.lossy_network.proofs.Copies.{sent_copies, unsent_copies}
use Rattle.lossy_network.proofs.laws.a_datagram_is_taken_as_often_as_its_fate_says.Goals as goal

pub returns-clause-sent : goal.returns-clause-sent
returns-clause-sent c = sent_copies

pub returns-clause-not_sent : goal.returns-clause-not_sent
returns-clause-not_sent c = unsent_copies
