use Rattle.board_history.proofs.Steps.{finished}
use Rattle.board_history.proofs.records.a_clients_record_is_finished.Goals as goal

pub returns : goal.returns
returns c = finished
