use Rattle.board_history.proofs.Live.{live}
use Rattle.board_history.proofs.records.a_finished_lane_is_live.Goals as goal

pub returns : goal.returns
returns c = live
