use Rattle.std.proofs.Common.{◌≤◌, ◌+◌, ◌-◌, length, vec_len, vec_capacity}
use Rattle.board_greeting.proofs.Standings.{TakenSoFar}
use Rattle.board_greeting.proofs.standing.take_lanes.Given as goal

-- the boards so far, and room for the lanes of those that are left
abbrev pub invariant-loop-board : goal.invariant-loop-board
invariant-loop-board g l = record {
  so_far : TakenSoFar l.board-index l.initial.boards l.boards l.lanes.items;
  room : vec_len l.lanes + (length l.initial.boards - l.board-index) ≤ vec_capacity l.lanes;
}
