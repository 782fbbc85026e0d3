use Rattle.std.proofs.Common.{◌≡◌, ◌++◌, drop, map}
use Rattle.run_audit.specs.Replaying as spec
use Rattle.run_audit.proofs.replaying.all_placed.Given as goal

-- the clients so far, and those that are left
abbrev pub invariant-loop-i : goal.invariant-loop-i
invariant-loop-i l =
    map spec.placed_of l.placed.items ++ spec.placed_in_rows (drop l.i l.plans) (drop l.i l.rows)
    ≡ spec.placed_in_rows l.plans l.rows
