use Rattle.std.specs.Vec.Iter.{into_iter_items}
use Rattle.board_greeting.proofs.Standings.{PutSoFar}
use Rattle.board_greeting.proofs.standing.put_back.Given as goal

-- the boards so far, and the lanes that are left
abbrev pub invariant-loop-board : goal.invariant-loop-board
invariant-loop-board g l =
    PutSoFar l.board-index l.initial.boards l.boards l.fn.lanes.items (into_iter_items l.lanes)
