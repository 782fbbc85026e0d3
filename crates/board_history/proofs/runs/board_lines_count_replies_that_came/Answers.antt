use Rattle.board_history.proofs.BoardLines.{lines_heard}
use Rattle.board_history.proofs.runs.board_lines_count_replies_that_came.Goals as goal

pub returns : goal.returns
returns c = lines_heard
