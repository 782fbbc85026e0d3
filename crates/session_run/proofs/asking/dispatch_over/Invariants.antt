use Rattle.std.proofs.Common.{◌≡◌, map, take}
use Rattle.session_run.specs.Plans.{count_at, pairs_from}
use Rattle.session_run.proofs.asking.dispatch_over.Given as goal

-- the lanes so far
abbrev pub invariant-loop-lane : goal.invariant-loop-lane
invariant-loop-lane l = l.asks ≡ pairs_from 0 (map (count_at l.client l.dispatch) (take l.lane l.boards))
