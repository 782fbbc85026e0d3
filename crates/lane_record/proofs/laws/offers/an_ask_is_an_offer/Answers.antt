use Rattle.lane_record.proofs.Hearing.{asks_agree}
use Rattle.lane_record.proofs.laws.offers.an_ask_is_an_offer.Goals as goal

pub returns-clause-offered : goal.returns-clause-offered
returns-clause-offered c = λ hub claims outcomes claim is. asks_agree hub claims outcomes claim is
