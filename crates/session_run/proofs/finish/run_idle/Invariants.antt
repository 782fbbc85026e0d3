use Rattle.std.proofs.Common.{◌≡◌, ◌≤◌, length, map, take, vec_len, vec_capacity}
use Rattle.std.specs.List.{AllByRecursion}
use Rattle.script_plans.specs.Plan.{plans_on}
use Rattle.session_run.proofs.DispatchParts.{plan_in_part}
use Rattle.session_run.proofs.Idle.{HasNothing}
use Rattle.session_run.proofs.finish.run_idle.Given as goal

-- the clients so far, who ask nothing, and room for all
abbrev pub invariant-loop-steps : goal.invariant-loop-steps
invariant-loop-steps l = record {
  planned : map plan_in_part l.parts.items ≡ plans_on l.position l.greeting (take l.steps-index l.scripts);
  nothing : AllByRecursion HasNothing l.parts.items;
  count : vec_len l.parts ≡ l.steps-index;
  room : length l.scripts ≤ vec_capacity l.parts;
}
