use Rattle.std.proofs.Common.{◌≡◌, map, take, ◌≤◌, vec_len, vec_capacity, length}
use Rattle.board_history.specs.Lates.{late_for}
use Rattle.session_run.proofs.late_answers.copy_lates.Given as goal

-- what came late for the bodies so far, and room for that of all
abbrev pub invariant-loop-outcome : goal.invariant-loop-outcome
invariant-loop-outcome g l = (l.lates.items ≡ map (late_for l.lane.lates) (take l.outcome-index l.outcomes))
    × (vec_len l.lates ≡ l.outcome-index)
    × (length l.outcomes ≤ vec_capacity l.lates)
