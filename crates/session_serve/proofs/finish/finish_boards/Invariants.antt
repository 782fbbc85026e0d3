use Rattle.std.proofs.Common.{◌≡◌, ◌≤◌, ◌+◌, length, vec_len, vec_capacity}
use Rattle.std.specs.Vec.Iter.{into_iter_items}
use Rattle.board_greeting.specs.Boards.{LeavesRoom}
use Rattle.session_serve.proofs.Finishing.{FinishedSoFar}
use Rattle.session_serve.proofs.finish.finish_boards.Given as goal

-- the boards so far, and those that are left
abbrev pub invariant-loop-name : goal.invariant-loop-name
invariant-loop-name g l =
    let link = g.R.L.Link in
    record {
      so_far : FinishedSoFar link l.fn.names.items l.fn.boards.items (into_iter_items l.name-iterator)
          (into_iter_items l.boards) l.lines.items
          (g.R.Rack.kept l.fn.rack) (g.R.Rack.kept l.rack);
      room : LeavesRoom (length (g.R.Rack.kept l.rack)) (length (g.R.Rack.made l.rack)) (length (into_iter_items l.boards));
      place : vec_len l.lines + length (into_iter_items l.name-iterator) ≤ vec_capacity l.lines;
      made : g.R.Rack.made l.rack ≡ g.R.Rack.made l.fn.rack;
      faults : g.R.Rack.faults l.rack ≡ g.R.Rack.faults l.fn.rack;
    }
