use Rattle.std.proofs.Common.{◌≡◌, ◌++◌, drop, map}
use Rattle.run_audit.specs.AskedLines.{with_places}
use Rattle.run_audit.specs.Steps.{asking, piece_kept}
use Rattle.run_audit.proofs.places.push_pieces.Given as goal

-- those so far, and the pieces that are left
abbrev pub invariant-loop-at : goal.invariant-loop-at
invariant-loop-at l =
    map piece_kept l.all.items ++ with_places (asking l.asked) (drop l.at l.pieces) (drop l.at l.places)
    ≡ map piece_kept l.initial.all.items ++ with_places (asking l.asked) l.pieces l.places
