use Rattle.std.proofs.Common.{◌≡◌, ◌+◌, ◌≤◌, ◌++◌, drop, length, map}
use Rattle.std.specs.Prelude.{vec_capacity, vec_len}
use Rattle.script_plans.specs.Plan.{piece_behind}
use Rattle.script_plans.proofs.op_pieces.push_moved.Given as goal

-- the pieces so far, and those that are left
abbrev pub invariant-loop-piece : goal.invariant-loop-piece
invariant-loop-piece l = record {
  pieces' : l.places.items ++ map (piece_behind l.first) (drop l.piece-index l.pieces)
      ≡ l.fn.places.items ++ map (piece_behind l.first) l.pieces;
  room : vec_len l.places + length (drop l.piece-index l.pieces) ≤ vec_capacity l.places;
}
