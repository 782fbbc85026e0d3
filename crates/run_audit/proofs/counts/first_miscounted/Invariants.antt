use Rattle.std.proofs.Common.{List, map}
use Rattle.board_specs.specs.declared.spec.BoardSpec.{BoardSpec}
use Rattle.run_audit.specs.Steps.{AreOf, asking}
use Rattle.run_audit.proofs.Distinct.{NoneMiscounted}
use Rattle.run_audit.proofs.counts.first_miscounted.Given as goal

-- no board so far
abbrev pub invariant-loop-board : goal.invariant-loop-board
invariant-loop-board l = (boards : List BoardSpec) → AreOf boards l.scripts l.shown l.plans (map asking l.asked)
    → NoneMiscounted boards l.scripts l.shown l.board
