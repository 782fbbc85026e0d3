use Rattle.std.proofs.Common.{◌≡◌, List, ap, ◌∙◌, rules}
use Rattle.script_plans.specs.Plan.{ClientBodies}
use Rattle.run_audit.specs.Steps.{asking, planned_pieces}
use Rattle.run_audit.proofs.PlansMade.{planned_pieces_are}
use Rattle.run_audit.proofs.plans.pieces_at.Goals as goal

pub returns-in-None-clause-pieces : goal.returns-in-None-clause-pieces
returns-in-None-clause-pieces c = λ boards scripts of_them.
    let planned : c.pieces_of.result.now ≡ planned_pieces c.args.plans.now (asking c.args.asked.now) = search rules in
    planned ∙ (ap (λ (plans : List (List ClientBodies)). planned_pieces plans (asking c.args.asked.now)) of_them
    ∙ planned_pieces_are boards scripts (asking c.args.asked.now))
