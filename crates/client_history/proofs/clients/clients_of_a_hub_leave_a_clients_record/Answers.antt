use Rattle.client_history.proofs.Did.{left_by_clients}
use Rattle.client_history.proofs.clients.clients_of_a_hub_leave_a_clients_record.Goals as goal

pub returns : goal.returns
returns c = left_by_clients
