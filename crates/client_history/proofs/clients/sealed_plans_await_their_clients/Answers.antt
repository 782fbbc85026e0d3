use Rattle.client_history.proofs.Awaits.{await_clients}
use Rattle.client_history.proofs.clients.sealed_plans_await_their_clients.Goals as goal

pub returns : goal.returns
returns c = await_clients
