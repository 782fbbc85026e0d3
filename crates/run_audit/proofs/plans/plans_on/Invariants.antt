use Rattle.std.proofs.Common.{◌≡◌, take}
use Rattle.std.specs.List.{AllByRecursion}
use Rattle.script_plans.specs.Plan.{plans_on}
use Rattle.run_audit.specs.Replaying.{HasShortBodies}
use Rattle.run_audit.proofs.plans.plans_on.Given as goal

-- the plans of the clients so far, whose bodies a bus executes
abbrev pub invariant-loop-steps : goal.invariant-loop-steps
invariant-loop-steps l = record {
  plans : l.items.items ≡ plans_on l.board l.greeting (take l.steps-index l.scripts);
  short : AllByRecursion HasShortBodies l.items.items;
}
