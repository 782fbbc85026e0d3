use Rattle.std.proofs.Common.{List, [], ◌∷◌, ◌++◌, sym, ap, subst, ◌∙◌}
use Rattle.lane_tables.specs.declared.rows.PlannedBody.{PlannedBody}
use Rattle.lane_tables.specs.Books.{IsFirstUntaken}
use Rattle.lane_tables.proofs.PlannedBodies.{first_planned}
use Rattle.lane_tables.proofs.rows.ClientRow.add_plan.Goals as goal

pub invariant_of-self-2 : goal.invariant_of-self-2
invariant_of-self-2 c =
    let r = c.self.inside in
    subst (λ (bodies : List PlannedBody). IsFirstUntaken bodies r.asked r.taken)
    (sym (c.in_ok-push.ensures.items ∙ ap (λ (b : PlannedBody). r.bodies.items ++ b ∷ []) c.new.ensures))
    (first_planned r.bodies.items r.asked r.taken c.args.body c.self.invariant)
