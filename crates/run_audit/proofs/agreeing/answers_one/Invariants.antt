use Rattle.std.proofs.Common.{◌↔◌, drop}
use Rattle.run_audit.specs.Agreeing as spec
use Rattle.run_audit.proofs.agreeing.answers_one.Given as goal

-- what is answered is one of the pieces that are left
abbrev pub invariant-loop-piece : goal.invariant-loop-piece
invariant-loop-piece l =
    spec.AnswersOne l.ends l.op l.answer (drop l.piece-index l.pieces) ↔ spec.AnswersOne l.ends l.op l.answer l.pieces
