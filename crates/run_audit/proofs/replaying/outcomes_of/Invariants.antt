use Rattle.std.proofs.Common.{◌≡◌, ◌++◌, drop, map}
use Rattle.run_audit.specs.Replaying as spec
use Rattle.run_audit.proofs.replaying.outcomes_of.Given as goal

-- the bodies so far, and those that are left
abbrev pub invariant-loop-known : goal.invariant-loop-known
invariant-loop-known l =
    l.outcomes.items ++ map (spec.outcome_among l.replies) (drop l.known-index l.row)
    ≡ map (spec.outcome_among l.replies) l.row
