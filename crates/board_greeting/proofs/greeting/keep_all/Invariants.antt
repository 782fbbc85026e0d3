use Rattle.std.proofs.Common.{◌≡◌, ◌++◌, length}
use Rattle.std.specs.Vec.Iter.{into_iter_items}
use Rattle.board_greeting.specs.Boards.{LeavesRoom}
use Rattle.board_greeting.specs.Standings.{links_in}
use Rattle.board_greeting.proofs.greeting.keep_all.Given as goal

-- the links so far, and the boards that are left
abbrev pub invariant-loop-board : goal.invariant-loop-board
invariant-loop-board g l = record {
  split : g.R.Rack.kept l.rack ++ links_in (into_iter_items l.board-iterator)
      ≡ g.R.Rack.kept l.initial.rack ++ links_in l.fn.boards.items;
  made : g.R.Rack.made l.rack ≡ g.R.Rack.made l.initial.rack;
  faults : g.R.Rack.faults l.rack ≡ g.R.Rack.faults l.initial.rack;
  room : LeavesRoom (length (g.R.Rack.kept l.rack)) (length (g.R.Rack.made l.rack))
      (length (links_in (into_iter_items l.board-iterator)));
}
