use Rattle.std.proofs.Common.{◌≡◌, ◌++◌, drop}
use Rattle.std.specs.Vec.Iter.{into_iter_items}
use Rattle.run_audit.specs.Replaying as spec
use Rattle.run_audit.proofs.replaying.parts_of.Given as goal

-- the clients so far, and those that are left
abbrev pub invariant-loop-row : goal.invariant-loop-row
invariant-loop-row l =
    l.parts.items ++ spec.parts_among l.replies (into_iter_items l.plans) (drop l.row-index l.rows)
    ≡ spec.parts_among l.replies l.fn.plans.items l.rows
