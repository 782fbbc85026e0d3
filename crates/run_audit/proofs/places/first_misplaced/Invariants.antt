use Rattle.std.proofs.Common.{List, map}
use Rattle.board_specs.specs.declared.spec.BoardSpec.{BoardSpec}
use Rattle.script_steps.specs.declared.operation.Step.{Step}
use Rattle.run_audit.specs.Steps.{AreOf, IsFirstBroken, asking}
use Rattle.run_audit.proofs.FirstBroken.{IsMisplacedBelow}
use Rattle.run_audit.proofs.places.first_misplaced.Given as goal

-- the first line of the boards so far
abbrev pub invariant-loop-board : goal.invariant-loop-board
invariant-loop-board l = (boards : List BoardSpec) (scripts : List (List Step))
    → AreOf boards scripts l.shown l.plans (map asking l.asked)
    → IsFirstBroken (IsMisplacedBelow boards scripts l.shown l.board) l.first
