-- What open places are kept as, and the list that they are. No public contract speaks of it.
use Rattle.std.specs.Prelude.{List}
use Rattle.world_model.specs.declared.offered.OpenPlace.{OpenPlace}
use Rattle.reliable_engine.specs.declared.open_places.OpenPlaces.TheInside.{Inside}
use Rattle.reliable_engine.specs.declared.slots.TheConstants.{SLOTS}
use Rattle.reliable_engine.specs.Slots.{IsSlotted, open_from}

abbrev pub open_places_of : Inside → List OpenPlace
open_places_of kept = open_from kept.slots kept.low SLOTS

abbrev pub AreKept : Inside → Type 0
AreKept kept = IsSlotted kept.low kept.end (open_from kept.slots kept.low SLOTS)
