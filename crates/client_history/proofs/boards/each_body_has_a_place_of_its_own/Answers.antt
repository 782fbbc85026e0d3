use Rattle.client_history.proofs.Places.{places_differ, places_rise}
use Rattle.client_history.proofs.boards.each_body_has_a_place_of_its_own.Goals as goal

pub returns-clause-rise : goal.returns-clause-rise
returns-clause-rise c = places_rise

pub returns-clause-differ : goal.returns-clause-differ
returns-clause-differ c = places_differ
