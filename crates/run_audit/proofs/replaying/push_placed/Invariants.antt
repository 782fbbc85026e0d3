use Rattle.std.proofs.Common.{◌≡◌, ◌++◌, drop, map}
use Rattle.run_audit.specs.Replaying as spec
use Rattle.run_audit.proofs.replaying.push_placed.Given as goal

-- the bodies so far, and those that are left
abbrev pub invariant-loop-i : goal.invariant-loop-i
invariant-loop-i l =
    map spec.placed_of l.placed.items ++ spec.placed_in_row (drop l.i l.bodies) (drop l.i l.row)
    ≡ map spec.placed_of l.initial.placed.items ++ spec.placed_in_row l.bodies l.row
