use Rattle.std.proofs.Common.{◌≡◌, ℕ, map, take, true}
use Rattle.std.specs.Option.{ForSome}
use Rattle.run_audit.specs.Counts.{distinct}
use Rattle.run_audit.specs.Taken.{has}
use Rattle.run_audit.specs.Steps.{place_of, piece_kept}
use Rattle.run_audit.proofs.Distinct.{is_among}
use Rattle.run_audit.proofs.counts.distinct_places.Given as goal

-- the places so far, and how many they are
abbrev pub invariant-loop-piece : goal.invariant-loop-piece
invariant-loop-piece l = record {
  last' : ForSome l.last (λ last. has l.places last.place ≡ true);
  places : (place : ℕ) → has l.places place
      ≡ is_among place (take l.piece-index (map place_of (map piece_kept l.pieces)));
  count : l.places.count ≡ distinct (take l.piece-index (map place_of (map piece_kept l.pieces)));
}
