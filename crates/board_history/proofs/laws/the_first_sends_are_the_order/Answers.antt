use Rattle.board_history.proofs.Sends.{sends_are_the_order}
use Rattle.board_history.proofs.laws.the_first_sends_are_the_order.Goals as goal

pub returns : goal.returns
returns c = sends_are_the_order
