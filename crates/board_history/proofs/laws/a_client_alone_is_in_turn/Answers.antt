use Rattle.board_history.proofs.Alone.{alone_in_turn}
use Rattle.board_history.proofs.laws.a_client_alone_is_in_turn.Goals as goal

pub returns : goal.returns
returns c = alone_in_turn
