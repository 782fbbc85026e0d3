use Rattle.reliable_engine.proofs.Draining.{draining}
use Rattle.reliable_engine.proofs.laws.draining_ends.Goals as goal

pub returns-clause-end : goal.returns-clause-end
returns-clause-end c = draining c.sends_go_one_by_one.ensures.fewer
