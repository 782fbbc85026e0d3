use Rattle.world_model.proofs.Patience.{few_requests, late_ends, settled_ends, patient_first}
use Rattle.world_model.proofs.laws.fates.a_give_up_comes_only_after_its_rounds.Goals as goal

pub returns-clause-counted : goal.returns-clause-counted
returns-clause-counted c = few_requests

pub returns-clause-settled : goal.returns-clause-settled
returns-clause-settled c = settled_ends

pub returns-clause-late : goal.returns-clause-late
returns-clause-late c = late_ends

pub returns-clause-after : goal.returns-clause-after
returns-clause-after c = patient_first
