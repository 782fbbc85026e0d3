use Rattle.board_history.proofs.LaneShown.{all_executed_some}
use Rattle.board_history.proofs.runs.each_board_executes_a_merge.Goals as goal

pub returns : goal.returns
returns c = all_executed_some
