use Rattle.std.proofs.Common.{◌≡◌, ◌++◌, drop, map}
use Rattle.std.specs.Vec.Iter.{into_iter_items}
use Rattle.board_greeting.specs.Reports.{shown_by}
use Rattle.board_greeting.specs.Standings.{numbers_in}
use Rattle.session_run.specs.Places.{AreCameOf}
use Rattle.session_run.proofs.Sessions.{RanBoards}
use Rattle.session_run.proofs.finish.finish_boards.Given as goal

-- the boards so far, and those that are left
abbrev pub invariant-loop-position : goal.invariant-loop-position
invariant-loop-position g l =
    let shows = shown_by g.R.L.Link in
    record {
      so_far : RanBoards shows l.settings l.position l.specs l.scripts l.runs.items l.is_whole
          (g.R.Rack.kept l.initial.rack) (g.R.Rack.kept l.rack);
      left : AreCameOf shows l.settings l.scripts l.position (drop l.position l.specs) (into_iter_items l.boards)
          (into_iter_items l.parts);
      numbers : map g.R.L.Link.number (g.R.Rack.kept l.rack) ++ numbers_in g.R.L.Link.number (into_iter_items l.boards)
          ≡ map g.R.L.Link.number (g.R.Rack.kept l.initial.rack) ++ numbers_in g.R.L.Link.number l.fn.boards.items;
      made : g.R.Rack.made l.rack ≡ g.R.Rack.made l.initial.rack;
      faults : g.R.Rack.faults l.rack ≡ g.R.Rack.faults l.initial.rack;
    }
