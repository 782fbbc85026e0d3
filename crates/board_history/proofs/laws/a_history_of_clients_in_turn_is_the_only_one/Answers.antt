use Rattle.board_history.proofs.Only.{only_in_turn}
use Rattle.board_history.proofs.laws.a_history_of_clients_in_turn_is_the_only_one.Goals as goal

pub returns : goal.returns
returns c = only_in_turn
