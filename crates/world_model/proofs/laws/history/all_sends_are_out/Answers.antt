use Rattle.world_model.proofs.Flushing.{run_out}
use Rattle.world_model.proofs.laws.history.all_sends_are_out.Goals as goal

pub returns : goal.returns
returns c = λ window rounds board air moves w is. (run_out window rounds board air moves w is).0
