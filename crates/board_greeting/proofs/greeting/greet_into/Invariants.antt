use Rattle.std.proofs.Common.{◌≡◌, ◌+◌, ◌-◌, ◌≤◌, length, map}
use Rattle.std.specs.Vec.{vec_capacity, vec_len}
use Rattle.board_greeting.specs.Boards.{AreReached, LeavesRoom}
use Rattle.board_greeting.specs.Reports.{shown_by}
use Rattle.board_greeting.specs.Links.{AreMadeFor}
use Rattle.board_greeting.specs.Standings.{links_in}
use Rattle.board_greeting.proofs.greeting.greet_into.Given as goal

-- the boards so far
abbrev pub invariant-loop-spec : goal.invariant-loop-spec
invariant-loop-spec g l = record {
  many : length l.boards.items ≡ l.spec-index;
  reached : AreReached (shown_by g.R.L.Link) l.settings l.specs l.boards.items;
  faults : g.R.Rack.faults l.rack ≡ g.R.Rack.faults l.initial.rack;
  kept : g.R.Rack.kept l.rack ≡ g.R.Rack.kept l.initial.rack;
  made : AreMadeFor l.specs (map (shown_by g.R.L.Link) (links_in l.boards.items)) (g.R.Rack.made l.initial.rack)
      (g.R.Rack.made l.rack);
  room : LeavesRoom (length (g.R.Rack.kept l.rack)) (length (g.R.Rack.made l.rack)) (length l.boards.items);
  place : vec_len l.boards + (l.spec-index-end - l.spec-index) ≤ vec_capacity l.boards;
}
