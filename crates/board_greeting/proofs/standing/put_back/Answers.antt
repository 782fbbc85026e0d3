use Rattle.std.proofs.Common.{◌∙◌, ◌∷◌, ap, refl}
use Rattle.std.specs.Vec.Iter.{into_iter_items}
use Rattle.board_greeting.specs.Standings.{with_lanes}
use Rattle.board_greeting.proofs.Standings.{put_more}
use Rattle.board_greeting.proofs.standing.put_back.Goals as goal

pub loop-board-preserved : goal.loop-board-preserved
loop-board-preserved g c =
    let lanes = into_iter_items c.loop-board.lanes in
    put_more c.loop-board.board-index c.args.boards.now c.loop-board.boards _ c.args.lanes.items lanes
    (into_iter_items c.put_lane.new.lanes) c.board-item.result c.put_lane.new.board c.loop-board.invariant
    c.loop-board-test.true c.board-item.is refl
    (λ rest. ap (λ one. with_lanes (one ∷ rest) lanes) c.board-item.is ∙ c.put_lane.ensures rest)
