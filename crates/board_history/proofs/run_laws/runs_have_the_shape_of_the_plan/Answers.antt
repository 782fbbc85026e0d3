use Rattle.board_history.proofs.Shaped.{have_fates}
use Rattle.board_history.proofs.run_laws.runs_have_the_shape_of_the_plan.Goals as goal

pub returns : goal.returns
returns c = have_fates c.bodies_stand_dispatch_by_dispatch.ensures.bodies 0
