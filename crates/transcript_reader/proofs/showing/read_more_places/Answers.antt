use Rattle.std.proofs.Common.{◌++◌, List, ℕ, ap, ◌∙◌}
use Rattle.transcript.specs.Claims.{IsPrintedPlace}
use Rattle.ipb_base.specs.Fronts.{all_of}
use Rattle.transcript_reader.specs.Reading.{next_place_at}
use Rattle.ipb_base.proofs.Fronts.{one_more}
use Rattle.transcript_reader.proofs.Lists.{all_push}
use Rattle.transcript_reader.proofs.Texts.{places_shorten}
use Rattle.transcript_reader.proofs.showing.read_more_places.Goals as goal

pub places-smaller : goal.places-smaller
places-smaller c = places_shorten c.places.rest.now c.in-Some.more.now c.in-Some.place c.in-Some.ensures.read

pub places-preserved : goal.places-preserved
places-preserved c = record {
  printed =
      λ before. rw c.in_ok-push.ensures.items
      (all_push IsPrintedPlace c.places.out.items c.in-Some.place (c.places.invariant.printed before)
      c.in-Some.ensures.printed);
  places =
      ap (λ (places : List (ℕ × ℕ)). places ++ (all_of next_place_at c.in-Some.more.now).0) c.in_ok-push.ensures.items
      ∙ one_more next_place_at places_shorten c.places.out.items c.places.rest.now c.in-Some.more.now c.in-Some.place
      c.in-Some.ensures.read
      ∙ c.places.invariant.places;
}
