use Rattle.std.proofs.Common.{◌≡◌, ℕ, map, take, true}
use Rattle.std.specs.Option.{ForSome, option_map}
use Rattle.script_plans.specs.Claims.{Rises}
use Rattle.run_audit.specs.Taken.{has}
use Rattle.run_audit.specs.Steps.{StandsBefore, piece_kept}
use Rattle.run_audit.proofs.Misplacing.{IsPlacing, has_place}
use Rattle.run_audit.proofs.places.first_misplaced_of.Given as goal

-- no piece so far is at fault, and their places are taken
abbrev pub invariant-loop-piece : goal.invariant-loop-piece
invariant-loop-piece l = record {
  placing : Rises StandsBefore (map piece_kept l.pieces)
      → IsPlacing l.sent (map piece_kept l.pieces) l.piece-index (option_map piece_kept l.last);
  last' : ForSome l.last (λ last. has l.taken last.place ≡ true);
  places : (place : ℕ) → has l.taken place
      ≡ has_place place (take l.piece-index (map piece_kept l.pieces));
}
