-- The capture of a run of the world, and the bodies that a capture shows as sent for the first time. Profile.
use Rattle.std.specs.Prelude.{ℕ, ◌+◌, ◌&&◌, if◌then◌else◌, List, [], ◌∷◌, ◌++◌, length, map, drop, Option, Some, None}
use Rattle.std.specs.Prelude.{Result, Ok, Err}
use Rattle.std.specs.List.{slice_get}
use Rattle.packet_ids.specs.Identifier.{identifier_at}
use Rattle.packet_codec.specs.declared.packet.Packet.{Packet}
use Rattle.packet_codec.specs.declared.packet.BadPacket.{BadPacket}
use Rattle.packet_codec.specs.Reading.{packet_of, head_read}
use Rattle.world_model.specs.declared.datagram.Datagram.{Datagram}
use Rattle.world_model.specs.declared.moves.WorldMove.{WorldMove}
use Rattle.world_model.specs.declared.moves.WorldMove.TheVariants.{Offer, Quiet, HubHears, BoardHears}
use Rattle.world_model.specs.declared.moves.WorldEnd.{WorldEnd}
use Rattle.world_model.specs.World.{World, step}
use Rattle.capture_reader.specs.declared.capture.Caught.{Caught}
use Rattle.capture_reader.specs.declared.capture.Capture.{Capture}
use Rattle.capture_reader.specs.Proved.{is_big_control, sent_after}
use Rattle.record_command.specs.Passing.{received_item, sent_item}
use Rattle.record_command.specs.Traffic.{for_board}

-- ---- the bodies of a capture

-- the body of the packet that was read
abbrev pub body_in : Result Packet BadPacket → List (List ℕ)
body_in (Ok packet) = packet.body ∷ []
body_in (Err fault) = []

-- the body of a datagram, where it is the next packet that is sent for the first time, behind so many
abbrev pub new_body : ℕ → ℕ → Caught → List (List ℕ)
new_body first sent item =
    if item.sent && is_big_control (identifier_at first (sent + 1)) (head_read (packet_of item.bytes))
    then body_in (packet_of item.bytes)
    else []

-- the bodies of the packets that are sent for the first time, in order
abbrev pub bodies_from : ℕ → ℕ → List Caught → List (List ℕ)
bodies_from first sent [] = []
bodies_from first sent (item ∷ items) =
    new_body first sent item ++ bodies_from first (sent_after first sent item) items

abbrev pub bodies_in : Capture → List (List ℕ)
bodies_in capture = bodies_from capture.first 0 capture.items

-- ---- the capture of a run

-- what the hub sent between two moments: each datagram for the board that joined the air
abbrev pub sent_since : World → World → List Caught
sent_since old new = map sent_item (for_board (drop (length old.air) new.air))

-- what the hub hears in a move
abbrev pub heard_at : Option Datagram → List Caught
heard_at None = []
heard_at (Some datagram) = received_item datagram.bytes ∷ []

abbrev pub heard_in : World → WorldMove → List Caught
heard_in w (Offer tag body) = []
heard_in w Quiet = []
heard_in w (HubHears number) = heard_at (slice_get w.air number)
heard_in w (BoardHears number) = []

-- The datagrams that the hub heard and sent in moves, one move after another: in each it hears a datagram, or none, and
-- then sends what there is to send.
abbrev pub items_then : Result World WorldEnd → (World → List Caught) → List Caught
items_then (Ok after) later = later after
items_then (Err end) later = []

abbrev pub items_of : ℕ → World → List WorldMove → List Caught
items_of at w [] = []
items_of at w (move ∷ moves) = items_then (step at w move)
    (λ after. (heard_in w move ++ sent_since w after) ++ items_of (at + 1) after moves)

abbrev pub capture_of : World → List WorldMove → Capture
capture_of begin moves = record { first = begin.hub.first; items = items_of 0 begin moves }
