use Rattle.client_history.proofs.Lines.{heard}
use Rattle.client_history.proofs.boards.replies_of_a_served_board_came_over_its_link.Goals as goal

pub returns : goal.returns
returns c = heard
