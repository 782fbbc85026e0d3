use Rattle.client_history.proofs.Leaving.{left_by_connections}
use Rattle.client_history.proofs.connections.connections_of_a_hub_leave_what_they_submitted.Goals as goal

pub returns : goal.returns
returns c = left_by_connections
