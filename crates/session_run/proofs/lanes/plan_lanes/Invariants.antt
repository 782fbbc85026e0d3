use Rattle.std.proofs.Common.{◌≤◌, vec_len, vec_capacity, ◌≡◌, drop, length}
use Rattle.board_greeting.specs.Standings.{positions_at_hub}
use Rattle.session_run.proofs.PlanningLanes.{PlannedSoFar}
use Rattle.session_run.proofs.lanes.plan_lanes.Given as goal

-- the lanes so far, the positions of those that are left, and room for all
abbrev pub invariant-loop-position : goal.invariant-loop-position
invariant-loop-position g l = record {
  so_far : PlannedSoFar g.L.Link.telling l.scripts (vec_len l.made) (positions_at_hub 0 l.boards) l.initial.lanes.items
      l.lanes.items l.made.items;
  left : positions_at_hub l.position (drop l.position l.boards)
      ≡ drop (vec_len l.made) (positions_at_hub 0 l.boards);
  room : length l.initial.lanes.items ≤ vec_capacity l.made;
}
