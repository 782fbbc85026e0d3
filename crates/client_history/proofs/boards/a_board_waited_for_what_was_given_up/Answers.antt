use Rattle.client_history.proofs.Lines.{paid, waited}
use Rattle.client_history.proofs.boards.a_board_waited_for_what_was_given_up.Goals as goal

pub returns-clause-line : goal.returns-clause-line
returns-clause-line c = waited

pub returns-clause-connections : goal.returns-clause-connections
returns-clause-connections c = paid
