use Rattle.std.proofs.Common.{◌≡◌, ◌++◌, ◌≤◌, length, drop, vec_len, vec_capacity}
use Rattle.board_greeting.specs.Standings.{states_at}
use Rattle.board_greeting.proofs.standing.states_of.Given as goal

-- the states so far, and the boards that are left
abbrev pub invariant-loop-board : goal.invariant-loop-board
invariant-loop-board g l = record {
  so_far : l.states.items ++ states_at l.lane (drop l.board-index l.boards) ≡ states_at 0 l.boards;
  few : l.lane ≤ l.board-index;
  many : vec_len l.states ≡ l.board-index;
  room : length l.boards ≤ vec_capacity l.states;
}
