use Rattle.script_plans.proofs.EachBody.{each_body}
use Rattle.script_plans.proofs.laws.each_body_of_a_plan_has_a_piece.Goals as goal

pub returns : goal.returns
returns c = each_body c.each_body_has_a_piece.ensures.function
