use Rattle.std.proofs.Common.{◌≡◌, ◌++◌, drop, map}
use Rattle.script_plans.specs.Plan as spec
use Rattle.script_plans.proofs.planning.push_pieces.Given as goal

-- the pieces so far, and those of the operations that are left
abbrev pub invariant-loop-op : goal.invariant-loop-op
invariant-loop-op l =
    l.all ++ map (λ pieces. map (spec.piece_behind l.first) pieces) (drop l.op l.packed.pieces)
    ≡ l.fn.all ++ map (λ pieces. map (spec.piece_behind l.first) pieces) l.packed.pieces
