use Rattle.std.proofs.Common.{◌≡◌, drop, map}
use Rattle.transcript.specs.Ends.{piece_result}
use Rattle.transcript.specs.Results.{first_not_done}
use Rattle.run_audit.proofs.agreeing.first_not_done.Given as goal

-- the first of those that are left is the first of all
abbrev pub invariant-loop-piece : goal.invariant-loop-piece
invariant-loop-piece l =
    first_not_done (map (piece_result l.ends) (drop l.piece-index l.pieces))
    ≡ first_not_done (map (piece_result l.ends) l.pieces)
