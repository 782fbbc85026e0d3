use Rattle.world_model.proofs.BoardSteps.{questions}
use Rattle.world_model.proofs.laws.boards.questions_change_nothing.Goals as goal

pub returns : goal.returns
returns c = questions
