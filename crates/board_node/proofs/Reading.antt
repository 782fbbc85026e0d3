-- What a datagram says, by the packet that it spells.
use Rattle.std.proofs.Common.{◌≡◌, ℕ, List, Some, None, Result, Ok, Err, refl, ap}
use Rattle.packet_codec.specs.declared.packet.Packet.{Packet}
use Rattle.packet_codec.specs.declared.packet.BadPacket.{BadPacket}
use Rattle.packet_codec.specs.Reading.{packet_of}
use Rattle.world_model.specs.Messages.{packet_to_board, to_board}
use Rattle.board_node.specs.View.{said_by}

by_packet : (bytes : List ℕ) (read : Result Packet BadPacket) → packet_of bytes ≡ read
    → to_board bytes ≡ packet_to_board read
unfolding to_board
by_packet bytes read is = ap packet_to_board is

pub said_by_packet : (bytes : List ℕ) (packet : Packet) → packet_of bytes ≡ Ok packet
    → to_board bytes ≡ said_by (Some packet)
said_by_packet bytes packet is = by_packet bytes (Ok packet) is

nothing_by : (bytes : List ℕ) (read : Result Packet BadPacket) → packet_of bytes ≡ read
    → ((packet : Packet) → packet_of bytes ≡ Ok packet → ⊥) → to_board bytes ≡ None
nothing_by bytes (Ok packet) is not = absurd (not packet is)
nothing_by bytes (Err fault) is not = by_packet bytes (Err fault) is

pub nothing_said : (bytes : List ℕ) → ((packet : Packet) → packet_of bytes ≡ Ok packet → ⊥) → to_board bytes ≡ None
nothing_said bytes not = nothing_by bytes (packet_of bytes) refl not
