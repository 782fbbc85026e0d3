use Rattle.lane_record.proofs.Kept.{told_all, told_ask, told_ask_lost, told_lost}
use Rattle.lane_record.proofs.laws.offers.outcomes_are_told_by_fates.Goals as goal

pub returns-clause-handed_out : goal.returns-clause-handed_out
returns-clause-handed_out c = told_all

pub returns-clause-asked : goal.returns-clause-asked
returns-clause-asked c = told_ask

pub returns-clause-lost : goal.returns-clause-lost
returns-clause-lost c = told_lost

pub returns-clause-asked_in_vain : goal.returns-clause-asked_in_vain
returns-clause-asked_in_vain c = told_ask_lost
