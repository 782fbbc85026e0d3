use Rattle.world_model.proofs.BoardSteps.{grew}
use Rattle.world_model.proofs.laws.boards.the_log_only_grows.Goals as goal

pub returns : goal.returns
returns c = grew
