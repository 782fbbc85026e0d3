use Rattle.transcript.proofs.ShownLines.{shown_places}
use Rattle.transcript.proofs.place_laws.lines_show_the_places_of_bodies.Goals as goal

pub returns : goal.returns
returns c = shown_places c.each_body_has_a_piece.ensures.function
