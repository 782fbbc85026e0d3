use Rattle.world_model.proofs.Patience.{after_rounds, few_timeouts}
use Rattle.world_model.proofs.laws.fates.timeouts_need_quiet_receives.Goals as goal

pub returns-clause-after_rounds : goal.returns-clause-after_rounds
returns-clause-after_rounds c = after_rounds

pub returns-clause-bound : goal.returns-clause-bound
returns-clause-bound c = few_timeouts c.laws_below.ensures
