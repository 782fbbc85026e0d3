use Rattle.client_history.proofs.Lines.{lost_bodies, lost_line}
use Rattle.client_history.proofs.boards.a_served_board_loses_bodies_only_with_its_link.Goals as goal

pub returns-clause-line : goal.returns-clause-line
returns-clause-line c = lost_line

pub returns-clause-bodies : goal.returns-clause-bodies
returns-clause-bodies c = lost_bodies
