use Rattle.script_plans.specs.Steps.{IsPlanning, so_far}
use Rattle.script_plans.proofs.planning.pack_dispatches.Given as goal

abbrev pub invariant-loop-step : goal.invariant-loop-step
invariant-loop-step l =
    IsPlanning l.payload l.board l.steps l.step-index (so_far l.planning) l.planning.queued.items
