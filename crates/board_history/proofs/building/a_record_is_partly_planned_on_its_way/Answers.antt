use Rattle.board_history.proofs.Growing.{plans_are_partly, front_partly, more_partly}
use Rattle.board_history.proofs.building.a_record_is_partly_planned_on_its_way.Goals as goal

pub returns-clause-plans : goal.returns-clause-plans
returns-clause-plans c = plans_are_partly

pub returns-clause-front : goal.returns-clause-front
returns-clause-front c = front_partly

pub returns-clause-more : goal.returns-clause-more
returns-clause-more c = more_partly
