use Rattle.std.proofs.Common.{◌∙◌, map}
use Rattle.run_audit.specs.Steps.{asking}
use Rattle.run_audit.proofs.Replays.{pieces_done, pieces_pushed, shown_is}
use Rattle.run_audit.proofs.replaying.all_pieces.Goals as goal

pub loop-board-preserved : goal.loop-board-preserved
loop-board-preserved c =
    λ boards scripts shown of.
    rw c.in_ok-push.ensures.items
    (pieces_pushed boards scripts (map asking c.args.asked.now) c.loop-board.board c.args.plans.now
    c.index-plans-board.result c.loop-board.all.items _ _ c.loop-board-test.true c.index-plans-board.is
    (c.in_ok-shown_pieces.ensures
    ∙ shown_is boards scripts c.args.plans.now (map asking c.args.asked.now) c.loop-board.board of.plans') (c.loop-board.invariant boards scripts shown of))

pub returns : goal.returns
returns c =
    λ boards scripts shown of.
    pieces_done boards scripts (map asking c.args.asked.now) c.loop-board.board c.args.plans.now _ _
    c.loop-board-test.false (c.loop-board.invariant boards scripts shown of)
