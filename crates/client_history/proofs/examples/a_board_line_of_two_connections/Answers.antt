use Rattle.std.proofs.Common.{refl}
use Rattle.client_history.proofs.examples.a_board_line_of_two_connections.Goals as goal

pub returns : goal.returns
returns c = λ spec word. refl
