use Rattle.hub_framing.proofs.FrameLemmas.{one_reading}
use Rattle.hub_framing.proofs.laws.a_stream_is_read_in_one_way.Goals as goal

pub returns : goal.returns
returns c = one_reading
