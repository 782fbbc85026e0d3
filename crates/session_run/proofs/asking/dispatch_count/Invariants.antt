use Rattle.std.proofs.Common.{◌≡◌, ◌≤◌, ◌+◌, drop, length}
use Rattle.script_plans.specs.Plan.{dispatches}
use Rattle.session_run.proofs.asking.dispatch_count.Given as goal

-- the dispatches that ended so far, and those that are left
abbrev pub invariant-loop-step : goal.invariant-loop-step
invariant-loop-step l = record {
  whole : l.count + length (dispatches (drop l.step-index l.steps)) ≡ length (dispatches l.steps) + 1;
  few : l.count ≤ l.step-index + 1;
}
