use Rattle.std.proofs.Common.{◌≡◌, ◌++◌, drop, map}
use Rattle.std.specs.List.{flat_map}
use Rattle.transcript.specs.Ends.{piece_result}
use Rattle.transcript.specs.Results as spec
use Rattle.transcript.proofs.results.op_result.Given as goal

-- the words so far and those of the pieces that are left, of which the first that fails is the first of all
abbrev pub invariant-loop-piece : goal.invariant-loop-piece
invariant-loop-piece l = record {
  words : l.words.items ++ flat_map spec.values_in (map (piece_result l.ends) (drop l.piece-index l.pieces))
      ≡ flat_map spec.values_in (map (piece_result l.ends) l.pieces);
  fault : spec.first_not_done (map (piece_result l.ends) (drop l.piece-index l.pieces))
      ≡ spec.first_not_done (map (piece_result l.ends) l.pieces);
}
