use Rattle.std.proofs.Common.{sym}
use Rattle.run_audit.proofs.Fields.{goes_on, none_left, not_true}
use Rattle.run_audit.proofs.agreeing.answers_one.Goals as goal

pub returns : goal.returns
returns c = (
  λ yes. absurd (not_true yes),
  λ some. absurd (none_left c.args.ends.now c.args.op.now c.args.answer.now c.args.pieces.now c.loop-piece.piece-index c.loop-piece-test.false (c.loop-piece.invariant.1 some)),
)

pub loop-piece-preserved : goal.loop-piece-preserved
loop-piece-preserved c =
    let on = goes_on c.args.ends.now c.args.op.now c.args.answer.now c.args.pieces.now c.loop-piece.piece-index _ c.loop-piece-test.true (λ same. not_true (c.if-answers_piece.ensures.1 same))
    (sym c.if-not-is_piece_done.ensures) in
    (λ some. c.loop-piece.invariant.0 (on.1 some), λ some. on.0 (c.loop-piece.invariant.1 some))
