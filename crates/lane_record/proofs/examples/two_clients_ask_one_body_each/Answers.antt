use Rattle.lane_record.proofs.Worked.{both_taken}
use Rattle.lane_record.proofs.examples.two_clients_ask_one_body_each.Goals as goal

pub returns-clause-legal : goal.returns-clause-legal
returns-clause-legal c = both_taken
