use Rattle.std.proofs.Common.{◌≡◌, ◌++◌, ◌-◌}
use Rattle.load_run.specs.Generated as spec
use Rattle.load_run.proofs.session.client_steps.Given as goal

-- the steps so far and those of the operations that are left are all
abbrev pub invariant-loop-before : goal.invariant-loop-before
invariant-loop-before l =
    l.steps.items ++ spec.steps_behind l.before (l.operations - l.before) ≡ spec.steps_behind 0 l.operations
