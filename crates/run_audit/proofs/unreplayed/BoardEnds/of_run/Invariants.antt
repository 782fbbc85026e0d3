use Rattle.std.proofs.Common.{◌≡◌, ◌++◌, drop, map}
use Rattle.run_audit.specs.Unreplayed as spec
use Rattle.run_audit.proofs.unreplayed.BoardEnds.of_run.Given as goal

-- the clients so far, and those that are left
abbrev pub invariant-loop-part : goal.invariant-loop-part
invariant-loop-part l =
    l.items.items ++ map spec.ends_in_time (drop l.part-index l.parts) ≡ map spec.ends_in_time l.parts
