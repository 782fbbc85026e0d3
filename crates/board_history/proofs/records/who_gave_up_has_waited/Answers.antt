use Rattle.board_history.proofs.Waits.{has_waited}
use Rattle.board_history.proofs.records.who_gave_up_has_waited.Goals as goal

pub returns : goal.returns
returns c = has_waited
