-- What private functions promise one another. No public contract speaks of it.
use Rattle.std.specs.Prelude.{ℕ, ◌+◌, List, [], ◌∷◌, map, false, Option, Some, None, if◌then◌else◌}
use Rattle.world_model.specs.declared.offered.OpenPlace.{OpenPlace}
use Rattle.world_model.specs.declared.sending.Sending.{Sending}
use Rattle.world_model.specs.Hub.{Hub, want_control, without}
use Rattle.world_model.specs.Sends.{Wanted, after_open}

-- the hub that goes on after a give-up, and any other as it is
abbrev pub after_resuming : Hub → Hub
after_resuming hub = record hub {
  open_places = if hub.gave_up then map want_control hub.open_places else hub.open_places;
  gave_up = false;
}

-- the open places after one was taken out
abbrev pub places_after : List OpenPlace → Option OpenPlace → List OpenPlace
places_after os None = os
places_after os (Some o) = without o.place os

-- the send that is wanted, and the open places after it
abbrev pub sending_of : Option Wanted → Option Sending
sending_of None = None
sending_of (Some w) = Some w.send

abbrev pub places_wanted : List OpenPlace → Option Wanted → List OpenPlace
places_wanted os None = os
places_wanted os (Some w) = w.open_places

-- how many of them are waited for
abbrev pub waits : List OpenPlace → ℕ
waits [] = 0
waits (o ∷ os) = (if o.waited then 1 else 0) + waits os

-- what is wanted of places at the front that want nothing, and of the others
abbrev pub prepend : List OpenPlace → Option Wanted → Option Wanted
prepend [] later = later
prepend (o ∷ os) later = after_open o (prepend os later)
