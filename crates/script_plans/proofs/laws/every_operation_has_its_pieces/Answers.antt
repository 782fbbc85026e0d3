use Rattle.script_plans.proofs.Covering.{each_has_pieces, each_has_its_body}
use Rattle.script_plans.proofs.laws.every_operation_has_its_pieces.Goals as goal

pub returns-clause-pieces : goal.returns-clause-pieces
returns-clause-pieces c = each_has_pieces

pub returns-clause-bodies : goal.returns-clause-bodies
returns-clause-bodies c = each_has_its_body
