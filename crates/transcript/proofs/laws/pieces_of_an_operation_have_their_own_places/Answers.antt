use Rattle.transcript.proofs.Rising.{places_differ}
use Rattle.transcript.proofs.laws.pieces_of_an_operation_have_their_own_places.Goals as goal

pub returns : goal.returns
returns c = places_differ
