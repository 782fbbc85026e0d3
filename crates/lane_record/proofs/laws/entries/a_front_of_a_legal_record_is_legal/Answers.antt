use Rattle.lane_record.proofs.Legality.{legal_front}
use Rattle.lane_record.proofs.laws.entries.a_front_of_a_legal_record_is_legal.Goals as goal

pub returns : goal.returns
returns c = legal_front
