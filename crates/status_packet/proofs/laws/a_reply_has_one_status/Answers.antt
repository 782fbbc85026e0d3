use Rattle.status_packet.proofs.StatusLemmas.{same_status}
use Rattle.status_packet.proofs.laws.a_reply_has_one_status.Goals as goal

pub returns : goal.returns
returns c = same_status
