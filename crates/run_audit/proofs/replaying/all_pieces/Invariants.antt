use Rattle.std.proofs.Common.{◌≡◌, ◌++◌, List, drop, map}
use Rattle.board_specs.specs.declared.spec.BoardSpec.{BoardSpec}
use Rattle.script_steps.specs.declared.operation.Step.{Step}
use Rattle.transcript_reader.specs.declared.shown.Shown.{Shown}
use Rattle.run_audit.specs.Replaying as spec
use Rattle.run_audit.specs.Steps.{AreOf, asking}
use Rattle.run_audit.proofs.replaying.all_pieces.Given as goal

-- the boards so far, and those that are left
abbrev pub invariant-loop-board : goal.invariant-loop-board
invariant-loop-board l =
    (boards : List BoardSpec) (scripts : List (List Step)) (shown : Shown)
    → AreOf boards scripts shown l.plans (map asking l.asked)
    → map spec.pieces_in l.all.items ++ spec.shown_from boards scripts (map asking l.asked) l.board (drop l.board l.plans)
    ≡ spec.shown_from boards scripts (map asking l.asked) 0 l.plans
