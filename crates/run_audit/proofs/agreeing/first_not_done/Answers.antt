use Rattle.std.proofs.Common.{sym, ◌∙◌}
use Rattle.run_audit.proofs.PiecesDone.{all_done, done_here, not_done_here}
use Rattle.run_audit.proofs.agreeing.first_not_done.Goals as goal

pub returns-then-not-is_piece_done-clause-first : goal.returns-then-not-is_piece_done-clause-first
returns-then-not-is_piece_done-clause-first c =
    sym c.loop-piece.invariant
    ∙ not_done_here c.args.ends.now c.args.pieces.now c.loop-piece.piece-index _ c.loop-piece-test.true
    (sym c.is_piece_done.ensures ∙ c.if-not-is_piece_done.true)

pub loop-piece-preserved : goal.loop-piece-preserved
loop-piece-preserved c =
    done_here c.args.ends.now c.args.pieces.now c.loop-piece.piece-index _ c.loop-piece-test.true
    (sym c.is_piece_done.ensures ∙ c.if-not-is_piece_done.false)
    ∙ c.loop-piece.invariant

pub returns-clause-first : goal.returns-clause-first
returns-clause-first c =
    sym c.loop-piece.invariant ∙ all_done c.args.ends.now c.args.pieces.now c.loop-piece.piece-index c.loop-piece-test.false
