use Rattle.board_history.proofs.Live.{run_over}
use Rattle.board_history.proofs.records.a_finished_lane_is_a_live_run.Goals as goal

pub returns : goal.returns
returns c = run_over c.bodies_stand_dispatch_by_dispatch.ensures.bodies
