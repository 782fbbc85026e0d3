-- What an engine answers, beside the event that it does. IPbus 2.0, reliability mechanism; the window is the profile's.
use Rattle.std.specs.Prelude.{◌≡◌, ◌⊎◌, ℕ, ◌+◌, ◌≤◌, ◌<◌, true, false, [], length, drop, Option, Some, None}
use Rattle.std.specs.List.{AllByRecursion}
use Rattle.packet_ids.specs.Identifier.{identifier_at}
use Rattle.world_model.specs.declared.offered.Offered.{Offered}
use Rattle.world_model.specs.declared.offered.OpenPlace.{OpenPlace}
use Rattle.world_model.specs.declared.sending.Sending.{Sending}
use Rattle.world_model.specs.declared.sending.Sending.TheVariants as sends
use Rattle.world_model.specs.Hub.{Hub, low, places}
use Rattle.world_model.specs.Sends.{Next}
use Rattle.world_model.specs.Facts.{has}

-- how many bodies were offered, without those that were never sent and never will be
abbrev pub body_count : Hub → ℕ
body_count hub = length hub.sent + length hub.queue

-- the tag of a body that is there
abbrev pub tag_there : Option Offered → Option ℕ
tag_there None = None
tag_there (Some offered) = Some offered.tag

-- a place whose body was sent and whose reply was not taken
abbrev pub IsOpen : Hub → ℕ → Type 0
IsOpen hub place = has place (places hub.open_places) ≡ true

-- the identifier of a reply is that of an open place
pub record NamesOpenPlace (hub : Hub) (id : ℕ) : Type 0 where
  pub place : ℕ
  pub open_there : IsOpen hub place
  pub identifier : identifier_at hub.first place ≡ id

-- a round is under way, and the identifier in a status reply is that of a place from the lowest open one to the one
-- after all
pub record TellsPlace (hub : Hub) (next : ℕ) : Type 0 where
  pub under_way : 0 < hub.status_requests
  pub place : ℕ
  pub from_low : low hub ≤ place
  pub up_to_next : place ≤ length hub.sent + 1
  pub identifier : identifier_at hub.first place ≡ next

-- nothing is to be sent for a place
pub record IsQuiet (o : OpenPlace) : Type 0 where
  pub no_resend : o.resend ≡ false
  pub no_control : o.control ≡ false

-- the places from the lowest open one to the next one, both counted, are more than the window
abbrev pub IsWindowFull : Hub → Type 0
IsWindowFull hub = hub.window + low hub < length hub.sent + 2

-- neither a status request nor anything for an open place is to be sent, and no body may be sent first
pub record HasNothingToSend (hub : Hub) : Type 0 where
  pub no_status : hub.status_wanted ≡ false
  pub quiet : AllByRecursion IsQuiet hub.open_places
  pub no_first : (hub.queue ≡ []) ⊎ IsWindowFull hub

-- the send, and the hub after it
abbrev pub sent_next : Option Next → Option Sending
sent_next None = None
sent_next (Some next) = Some next.send

abbrev pub hub_next : Hub → Option Next → Hub
hub_next hub None = hub
hub_next hub (Some next) = next.hub

-- a re-send request asks for the reply of an open place, and a control packet is that of an open place
abbrev pub IsSendOf : Hub → Sending → Type 0
IsSendOf hub sends.Status = Unit {0}
IsSendOf hub (sends.Resend id) = NamesOpenPlace hub id
IsSendOf hub (sends.Control place id) = IsOpen hub place

-- the hub whose first fate was handed out
abbrev pub told_first : Hub → Hub
told_first hub = record hub { fates = drop 1 hub.fates }

-- the hub whose first late answer was handed out
abbrev pub told_first_late : Hub → Hub
told_first_late hub = record hub { lates = drop 1 hub.lates }
