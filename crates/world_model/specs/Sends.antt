-- What a hub sends next. IPbus 2.0, reliability mechanism; the order of sends and the window are the profile's.
use Rattle.std.specs.Prelude.{ℕ, ◌+◌, nat_le, true, false, if◌then◌else◌, List, [], ◌∷◌, ◌++◌, length, Option}
use Rattle.std.specs.Prelude.{Some, None}
use Rattle.packet_ids.specs.Identifier.{identifier_at}
use Rattle.packet_codec.specs.declared.packet.Order.TheVariants.{Big}
use Rattle.packet_codec.specs.declared.packet.Packet.{Packet}
use Rattle.packet_codec.specs.Packet.{packet_bytes}
use Rattle.status_packet.specs.Packets.{status_request, resend_request}
use Rattle.world_model.specs.declared.offered.Offered.{Offered}
use Rattle.world_model.specs.declared.offered.OpenPlace.{OpenPlace}
use Rattle.world_model.specs.declared.sending.Sending.{Sending}
use Rattle.world_model.specs.declared.sending.Sending.TheVariants as sends
use Rattle.world_model.specs.Places.{at_place}
use Rattle.world_model.specs.Messages.{control_packet}
use Rattle.world_model.specs.Hub.{Hub, low, words_of}

-- a send, and the hub after it
pub record Next : Type 0 where
  pub send : Sending
  pub hub : Hub

-- a wanted send, and the open places after it
pub record Wanted : Type 0 where
  pub send : Sending
  pub open_places : List OpenPlace

abbrev pub after_open : OpenPlace → Option Wanted → Option Wanted
after_open o None = None
after_open o (Some w) = Some (record w { open_places = o ∷ w.open_places })

-- Low places are served first; a reply is asked for before its packet is repeated.
abbrev pub first_wanted : ℕ → List OpenPlace → Option Wanted
first_wanted first [] = None
first_wanted first (o ∷ os) =
    if o.resend
    then Some (record {
      send = sends.Resend (identifier_at first o.place);
      open_places = record o { resend = false } ∷ os;
    })
    else if o.control
    then Some (record {
      send = sends.Control o.place (identifier_at first o.place);
      open_places = record o { control = false } ∷ os;
    })
    else after_open o (first_wanted first os)

-- The body at the front of the queue gets the next place, where the window has room: from the lowest open place to that
-- one, both counted, there are no more places than the window.
abbrev pub opened_place : ℕ → OpenPlace
opened_place place = record { place = place; waited = true; resend = false; control = false }

abbrev pub first_send : Hub → List Offered → Option Next
first_send hub [] = None
first_send hub (offered ∷ later) =
    let place = length hub.sent + 1 in
    if nat_le (place + 1) (hub.window + low hub)
    then Some (record {
      send = sends.Control place (identifier_at hub.first place);
      hub = record hub {
        sent = hub.sent ++ offered ∷ [];
        queue = later;
        open_places = hub.open_places ++ opened_place place ∷ [];
      };
    })
    else None

abbrev pub wanted_or_first : Hub → Option Wanted → Option Next
wanted_or_first hub (Some w) = Some (record { send = w.send; hub = record hub { open_places = w.open_places } })
wanted_or_first hub None = first_send hub hub.queue

-- A wanted status request goes first, then wanted sends, then first sends.
abbrev pub next_send : Hub → Option Next
next_send hub =
    if hub.status_wanted
    then Some (record { send = sends.Status; hub = record hub { status_wanted = false } })
    else wanted_or_first hub (first_wanted hub.first hub.open_places)

-- at most how many sends come before another event
abbrev pub wishes : List OpenPlace → ℕ
wishes [] = 0
wishes (o ∷ os) = (if o.resend then 1 else 0) + (if o.control then 1 else 0) + wishes os

abbrev pub pending : Hub → ℕ
pending hub = (if hub.status_wanted then 1 else 0) + wishes hub.open_places + length hub.queue

-- The packet of a send. A hub writes big-endian (profile).
abbrev pub packet_to_send : Hub → Sending → Packet
packet_to_send hub sends.Status = status_request
packet_to_send hub (sends.Resend id) = resend_request id
packet_to_send hub (sends.Control place id) = control_packet Big id (words_of (at_place hub.sent place))

abbrev pub bytes_to_send : Hub → Sending → List ℕ
bytes_to_send hub send = packet_bytes (packet_to_send hub send)
