use Rattle.board_history.proofs.LaneShown.{whole_runs}
use Rattle.board_history.proofs.runs.faithful_links_answer_all.Goals as goal

pub returns : goal.returns
returns c = whole_runs c.bodies_stand_dispatch_by_dispatch.ensures.bodies
