use Rattle.std.proofs.Common.{◌≡◌, ◌++◌, drop, map, take}
use Rattle.session_run.specs.Parts.{with_lates}
use Rattle.session_run.proofs.late_answers.complete_each.Given as goal

-- the clients so far, and those that are left
abbrev pub invariant-loop-at : goal.invariant-loop-at
invariant-loop-at g l =
    take l.at l.parts ++ map (with_lates l.lane.lates) (drop l.at l.parts)
    ≡ map (with_lates l.lane.lates) l.fn.parts
