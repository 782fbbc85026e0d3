use Rattle.board_history.proofs.Live.{only_lost}
use Rattle.board_history.proofs.records.bodies_are_lost_with_a_failed_link.Goals as goal

pub returns : goal.returns
returns c = only_lost
