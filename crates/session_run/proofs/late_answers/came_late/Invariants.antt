use Rattle.std.proofs.Common.{◌≡◌, false, take}
use Rattle.std.specs.Prelude.{is_some}
use Rattle.std.specs.List.{list_any}
use Rattle.board_history.specs.Lates.{late_for}
use Rattle.session_run.proofs.late_answers.came_late.Given as goal

-- nothing came late for the bodies so far
abbrev pub invariant-loop-outcome : goal.invariant-loop-outcome
invariant-loop-outcome g l =
    list_any (λ outcome. is_some (late_for l.lane.lates outcome)) (take l.outcome-index l.outcomes) ≡ false
