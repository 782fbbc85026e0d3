use Rattle.client_history.proofs.Handed.{comes_back}
use Rattle.client_history.proofs.clients.a_lane_comes_back_with_its_record.Goals as goal

pub returns : goal.returns
returns c = comes_back
