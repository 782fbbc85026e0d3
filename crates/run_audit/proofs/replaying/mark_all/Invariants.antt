use Rattle.std.proofs.Common.{◌≡◌, drop, map}
use Rattle.run_audit.specs.Replaying as spec
use Rattle.run_audit.specs.Steps.{piece_kept}
use Rattle.run_audit.proofs.replaying.mark_all.Given as goal

-- what the pieces that are left show is still to be marked
abbrev pub invariant-loop-piece : goal.invariant-loop-piece
invariant-loop-piece l =
    spec.all_marked (map piece_kept (drop l.piece-index l.pieces)) l.rows
    ≡ spec.all_marked (map piece_kept l.pieces) l.initial.rows
