use Rattle.reliable_engine.proofs.Runs.{closed_for_good}
use Rattle.reliable_engine.proofs.laws.a_settled_place_is_closed_for_good.Goals as goal

pub returns : goal.returns
returns c = closed_for_good
