use Rattle.hub_framing.proofs.CallLemmas.{same_frames}
use Rattle.hub_framing.proofs.laws.frames_do_not_depend_on_the_pieces.Goals as goal

pub returns : goal.returns
returns c = same_frames
