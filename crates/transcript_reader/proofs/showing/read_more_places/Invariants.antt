use Rattle.std.proofs.Common.{◌≡◌, ◌++◌, length}
use Rattle.std.specs.List.{AllByRecursion}
use Rattle.transcript.specs.Claims.{IsPrintedPlace}
use Rattle.ipb_base.specs.Fronts.{all_of}
use Rattle.transcript_reader.specs.Reading.{next_place_at}
use Rattle.transcript_reader.proofs.showing.read_more_places.Given as goal

-- the places so far, and those of the text that is left
abbrev pub invariant-places : goal.invariant-places
invariant-places l = record {
  printed : AllByRecursion IsPrintedPlace l.fn.out.items → AllByRecursion IsPrintedPlace l.out.items;
  places : l.out.items ++ (all_of next_place_at l.rest).0 ≡ l.fn.out.items ++ (all_of next_place_at l.text).0;
}

abbrev pub decreases-places : goal.decreases-places
decreases-places l = length l.rest
