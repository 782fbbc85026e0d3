use Rattle.std.proofs.Common.{map}
use Rattle.run_audit.specs.Steps.{asking}
use Rattle.run_audit.proofs.Walking.{IsWalked}
use Rattle.run_audit.proofs.asking.push_client.Given as goal

-- the lines of the steps so far
abbrev pub invariant-loop-step : goal.invariant-loop-step
invariant-loop-step l =
    IsWalked l.client l.first l.steps l.shows (map asking l.initial.all.items) l.step-index (map asking l.all.items) l.line
    l.counts.items
