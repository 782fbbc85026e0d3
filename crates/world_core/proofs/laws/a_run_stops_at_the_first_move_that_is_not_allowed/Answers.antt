use Rattle.world_core.proofs.Refusals.{stopped_not_there, stopped_too_old, stops_not_there, stops_too_old}
use Rattle.world_core.proofs.laws.a_run_stops_at_the_first_move_that_is_not_allowed.Goals as goal

pub returns-clause-not_there : goal.returns-clause-not_there
returns-clause-not_there c = λ begin moves at. (stops_not_there begin moves at, stopped_not_there begin moves at)

pub returns-clause-too_old : goal.returns-clause-too_old
returns-clause-too_old c = λ begin moves at. (stops_too_old begin moves at, stopped_too_old begin moves at)
