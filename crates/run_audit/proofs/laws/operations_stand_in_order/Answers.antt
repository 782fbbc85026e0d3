use Rattle.run_audit.proofs.WellPlaced.{client_behind_client, each_in_its_line}
use Rattle.run_audit.proofs.laws.operations_stand_in_order.Goals as goal

pub returns-clause-lines : goal.returns-clause-lines
returns-clause-lines c = each_in_its_line

pub returns-clause-clients : goal.returns-clause-clients
returns-clause-clients c = client_behind_client
