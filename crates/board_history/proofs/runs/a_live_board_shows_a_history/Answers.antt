use Rattle.board_history.proofs.LaneShown.{is_history}
use Rattle.board_history.proofs.runs.a_live_board_shows_a_history.Goals as goal

pub returns : goal.returns
returns c = is_history
