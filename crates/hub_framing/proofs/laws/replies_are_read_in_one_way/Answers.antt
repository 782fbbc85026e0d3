use Rattle.hub_framing.proofs.ReplyLemmas.{one_list}
use Rattle.hub_framing.proofs.laws.replies_are_read_in_one_way.Goals as goal

pub returns : goal.returns
returns c = one_list
