use Rattle.std.proofs.Common.{◌≡◌, ◌++◌, drop, map}
use Rattle.run_audit.specs.Unreplayed as spec
use Rattle.run_audit.proofs.unreplayed.ends_of_boards.Given as goal

-- the boards so far, and those that are left
abbrev pub invariant-loop-run : goal.invariant-loop-run
invariant-loop-run l =
    l.ends.items ++ map spec.board_ends (drop l.run-index l.runs) ≡ map spec.board_ends l.runs
