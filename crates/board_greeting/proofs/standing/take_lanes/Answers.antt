use Rattle.std.proofs.Common.{◌∙◌, ◌++◌, ◌+◌, ◌-◌, ap, length, refl, sym, arith}
use Rattle.board_greeting.specs.Standings.{at_hub, lane_in}
use Rattle.board_greeting.proofs.Standings.{taken_more}
use Rattle.board_greeting.proofs.standing.take_lanes.Goals as goal

pub loop-board-preserved : goal.loop-board-preserved
loop-board-preserved g c =
    let lanes = c.loop-board.lanes.items in
    record {
      so_far = taken_more c.loop-board.board-index c.args.boards.now c.loop-board.boards _ lanes
          c.take_lane.new.lanes.items c.board-item.result c.take_lane.new.board c.loop-board.invariant.so_far
          c.loop-board-test.true c.board-item.is refl
          (c.take_lane.ensures.left ∙ ap (λ one. at_hub one) (sym c.board-item.is))
          (c.take_lane.ensures.lanes ∙ ap (λ one. lanes ++ lane_in one) (sym c.board-item.is));
      room = c.take_lane.ensures.room (length c.args.boards.now - (c.loop-board.board-index + 1))
          (let room = c.loop-board.invariant.room in let test = c.loop-board-test.true in omega (arith, room, test));
    }
