use Rattle.script_plans.proofs.DispatchLemmas.{bodies_are, counts_cut}
use Rattle.script_plans.proofs.laws.bodies_stand_dispatch_by_dispatch.Goals as goal

pub returns-clause-bodies : goal.returns-clause-bodies
returns-clause-bodies c = bodies_are

pub returns-clause-counts : goal.returns-clause-counts
returns-clause-counts c = counts_cut
