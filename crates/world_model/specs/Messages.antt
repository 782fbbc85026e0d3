-- What a datagram says to a board and to a hub, by the packet that its bytes spell. IPbus 2.0: control packets, status
-- packets and re-send requests. Profile: control packets in both byte orders, the others big-endian; the words of a
-- status packet that are not looked at. Bytes that spell no packet, or one that means nothing there, say nothing.
use Rattle.std.specs.Prelude.{ℕ, ◌==◌, ◌&&◌, nat_le, Bool, if◌then◌else◌, List, [], ◌∷◌, length, Option, Some, None}
use Rattle.std.specs.Prelude.{Result, Ok, Err}
use Rattle.packet_codec.specs.declared.header.Header.{Header}
use Rattle.packet_codec.specs.declared.packet.Order.{Order}
use Rattle.packet_codec.specs.declared.packet.PacketKind.{PacketKind}
use Rattle.packet_codec.specs.declared.packet.PacketKind.TheVariants.{Control, Status, Resend}
use Rattle.packet_codec.specs.declared.packet.Packet.{Packet}
use Rattle.packet_codec.specs.declared.packet.BadPacket.{BadPacket}
use Rattle.packet_codec.specs.Header.{kind_code}
use Rattle.packet_codec.specs.Reading.{header_of, packet_of}
use Rattle.status_packet.specs.declared.status.TheConstants.{MIN_MTU, MAX_MTU, MAX_BUFFERS}
use Rattle.packet_ids.specs.declared.places.TheConstants.{IDENTIFIERS}

-- a control packet
abbrev pub control_packet : Order → ℕ → List ℕ → Packet
control_packet order id body = record { order = order; id = id; kind = Control; body = body }

-- what a datagram says to a board: tell your status, send the reply to this packet again, execute this body
pub data ToBoard : Type 0 where
  StatusRequest : ToBoard
  ResendRequest : ℕ → ToBoard
  ControlPacket : Order → ℕ → List ℕ → ToBoard

-- A status request has 16 words in all, of which 15 are not looked at. A re-send request is its header alone.
abbrev pub said_to_board : PacketKind → Order → ℕ → List ℕ → Option ToBoard
said_to_board Control order id body = Some (ControlPacket order id body)
said_to_board Status order id body = if (id == 0) && (length body == 15) then Some StatusRequest else None
said_to_board Resend order id body = if length body == 0 then Some (ResendRequest id) else None

abbrev pub packet_to_board : Result Packet BadPacket → Option ToBoard
packet_to_board (Ok packet) = said_to_board packet.kind packet.order packet.id packet.body
packet_to_board (Err fault) = None

unfoldable pub to_board : List ℕ → Option ToBoard
to_board bytes = packet_to_board (packet_of bytes)

-- what a datagram says to a hub: a board's status, or the reply to a control packet
pub data ToHub : Type 0 where
  StatusReply : ℕ → ℕ → ℕ → ToHub
  Reply : ℕ → List ℕ → ToHub

-- whether an MTU, a number of buffers and an identifier are those that a board can tell
abbrev pub can_be_told : ℕ → ℕ → ℕ → Bool
can_be_told mtu buffers next =
    nat_le MIN_MTU mtu && nat_le mtu MAX_MTU && nat_le 1 buffers && nat_le buffers MAX_BUFFERS
    && nat_le 1 next && nat_le next IDENTIFIERS

-- the fourth word of a status reply is the header of the control packet that is expected next
abbrev pub status_with : ℕ → ℕ → Option Header → Option ToHub
status_with mtu buffers None = None
status_with mtu buffers (Some header) =
    if (header.kind == kind_code Control) && can_be_told mtu buffers header.id
    then Some (StatusReply mtu buffers header.id)
    else None

-- the words after the header of a status reply: three that tell something and twelve that are not looked at
abbrev pub status_told : List ℕ → Option ToHub
status_told (mtu ∷ buffers ∷ next ∷ rest) = if length rest == 12 then status_with mtu buffers (header_of next) else None
status_told (mtu ∷ buffers ∷ []) = None
status_told (mtu ∷ []) = None
status_told [] = None

abbrev pub said_to_hub : PacketKind → ℕ → List ℕ → Option ToHub
said_to_hub Control id body = Some (Reply id body)
said_to_hub Status id body = if id == 0 then status_told body else None
said_to_hub Resend id body = None

abbrev pub packet_to_hub : Result Packet BadPacket → Option ToHub
packet_to_hub (Ok packet) = said_to_hub packet.kind packet.id packet.body
packet_to_hub (Err fault) = None

unfoldable pub to_hub : List ℕ → Option ToHub
to_hub bytes = packet_to_hub (packet_of bytes)
