use Rattle.std.proofs.Common.{[]}
use Rattle.hub_framing.proofs.CallLemmas.{each_is_a_frame, all_is_there}
use Rattle.hub_framing.proofs.laws.what_was_fed_is_handed_out_or_held.Goals as goal

pub returns : goal.returns
returns c = λ calls held steps. (each_is_a_frame calls [] held steps, all_is_there calls [] held steps)
