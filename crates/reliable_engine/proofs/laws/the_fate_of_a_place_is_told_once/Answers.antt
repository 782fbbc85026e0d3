use Rattle.reliable_engine.proofs.PlaceAccounts.{one_telling, only_sent, told_once}
use Rattle.reliable_engine.proofs.laws.the_fate_of_a_place_is_told_once.Goals as goal

pub returns-clause-once : goal.returns-clause-once
returns-clause-once c = told_once

pub returns-clause-fate_or_waited : goal.returns-clause-fate_or_waited
returns-clause-fate_or_waited c = one_telling

pub returns-clause-no_other : goal.returns-clause-no_other
returns-clause-no_other c = only_sent
