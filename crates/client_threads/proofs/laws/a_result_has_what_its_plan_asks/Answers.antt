use Rattle.client_threads.proofs.Results.{outcome_took, outcomes_asked}
use Rattle.client_threads.proofs.laws.a_result_has_what_its_plan_asks.Goals as goal

pub returns-clause-asked : goal.returns-clause-asked
returns-clause-asked c = outcomes_asked

pub returns-clause-took : goal.returns-clause-took
returns-clause-took c = outcome_took
