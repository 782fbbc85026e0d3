use Rattle.std.proofs.Common.{◌≡◌, ◌++◌, drop, map}
use Rattle.script_plans.specs.Plan.{ClientBodies}
use Rattle.run_audit.specs.Replaying as spec
use Rattle.run_audit.proofs.replaying.rows_of.Given as goal

-- the clients so far, and those that are left
abbrev pub invariant-loop-planned : goal.invariant-loop-planned
invariant-loop-planned l =
    l.rows.items ++ map (λ (plan : ClientBodies). spec.no_places plan.bodies) (drop l.planned-index l.plans)
    ≡ map (λ (plan : ClientBodies). spec.no_places plan.bodies) l.plans
