use Rattle.std.proofs.Common.{◌≡◌, ◌++◌, drop}
use Rattle.std.specs.List.{AllByRecursion}
use Rattle.script_plans.specs.Plan.{IsWithinBody}
use Rattle.transcript.specs.Results as spec
use Rattle.transcript.proofs.results.push_op_places.Given as goal

-- the places so far, and those of the pieces that are left
abbrev pub invariant-loop-piece : goal.invariant-loop-piece
invariant-loop-piece l = record {
  places : l.places.items ++ spec.op_places l.ends (drop l.piece-index l.pieces)
      ≡ l.fn.places.items ++ spec.op_places l.ends l.pieces;
  within : AllByRecursion IsWithinBody (drop l.piece-index l.pieces);
}
