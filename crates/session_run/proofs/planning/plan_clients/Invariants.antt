use Rattle.std.proofs.Common.{take, ◌≤◌, vec_len, vec_capacity, ◌≡◌, length}
use Rattle.script_plans.specs.declared.greeting.Greeting.TheVariants.{Live}
use Rattle.session_run.proofs.PlansMade.{PlanningClients}
use Rattle.session_run.proofs.planning.plan_clients.Given as goal

-- the clients so far, and room for all
abbrev pub invariant-loop-steps : goal.invariant-loop-steps
invariant-loop-steps g l = (PlanningClients l.position (Live l.payload) (take l.steps-index l.scripts) l.plans.items
    l.initial.lane l.lane)
    × (vec_len l.plans ≡ l.steps-index)
    × (length l.scripts ≤ vec_capacity l.plans)
