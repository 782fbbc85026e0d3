use Rattle.board_history.proofs.BoardLines.{lines_waited}
use Rattle.board_history.proofs.runs.board_lines_waited_for_their_time_outs.Goals as goal

pub returns : goal.returns
returns c = lines_waited c.a_board_line_counts_the_time_outs.ensures
