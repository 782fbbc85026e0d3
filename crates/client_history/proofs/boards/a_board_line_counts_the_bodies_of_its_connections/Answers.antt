use Rattle.client_history.proofs.Lines.{adds_up, live_counts}
use Rattle.client_history.proofs.boards.a_board_line_counts_the_bodies_of_its_connections.Goals as goal

pub returns-clause-live : goal.returns-clause-live
returns-clause-live c = live_counts

pub returns-clause-sum : goal.returns-clause-sum
returns-clause-sum c = adds_up
