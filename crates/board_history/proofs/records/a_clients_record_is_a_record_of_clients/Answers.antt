use Rattle.board_history.proofs.Sealed.{is_record_of}
use Rattle.board_history.proofs.records.a_clients_record_is_a_record_of_clients.Goals as goal

pub returns : goal.returns
returns c = is_record_of
