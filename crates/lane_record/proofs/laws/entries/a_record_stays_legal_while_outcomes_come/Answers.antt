use Rattle.lane_record.proofs.Legality.{legal_goes}
use Rattle.lane_record.proofs.laws.entries.a_record_stays_legal_while_outcomes_come.Goals as goal

pub returns : goal.returns
returns c = λ items old new is keeps places. legal_goes items old new keeps places is
