use Rattle.world_model.proofs.Flushing.{flush_step, flush_end, some_falls}
use Rattle.world_model.proofs.laws.sends.sends_go_one_by_one.Goals as goal

pub returns-clause-step : goal.returns-clause-step
returns-clause-step c = flush_step

pub returns-clause-end : goal.returns-clause-end
returns-clause-end c = flush_end

pub returns-clause-fewer : goal.returns-clause-fewer
returns-clause-fewer c = some_falls
