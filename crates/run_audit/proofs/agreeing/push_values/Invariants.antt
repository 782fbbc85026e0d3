use Rattle.std.proofs.Common.{◌≡◌, ◌++◌, drop, map}
use Rattle.std.specs.List.{flat_map}
use Rattle.transcript.specs.Ends.{piece_result}
use Rattle.transcript.specs.Results.{values_in}
use Rattle.run_audit.proofs.agreeing.push_values.Given as goal

-- the words so far, and those of the pieces that are left
abbrev pub invariant-loop-piece : goal.invariant-loop-piece
invariant-loop-piece l =
    l.words.items ++ flat_map values_in (map (piece_result l.ends) (drop l.piece-index l.pieces))
    ≡ l.fn.words.items ++ flat_map values_in (map (piece_result l.ends) l.pieces)
