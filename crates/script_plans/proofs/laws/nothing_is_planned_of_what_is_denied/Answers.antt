use Rattle.script_plans.proofs.Denials.{planned_alike}
use Rattle.script_plans.proofs.laws.nothing_is_planned_of_what_is_denied.Goals as goal

pub returns : goal.returns
returns c = planned_alike
