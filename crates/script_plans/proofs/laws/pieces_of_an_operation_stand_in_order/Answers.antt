use Rattle.script_plans.proofs.Rising.{pieces_rise}
use Rattle.script_plans.proofs.laws.pieces_of_an_operation_stand_in_order.Goals as goal

pub returns : goal.returns
returns c = pieces_rise
