use Rattle.std.proofs.Common.{◌≡◌, ◌+◌, drop, length}
use Rattle.script_steps.specs.Rulings.{asked_operations}
use Rattle.run_audit.proofs.counts.count_operations.Given as goal

-- the operations so far, and those of the steps that are left
abbrev pub invariant-loop-step : goal.invariant-loop-step
invariant-loop-step l = l.count + length (asked_operations (drop l.step-index l.steps)) ≡ length (asked_operations l.steps)
