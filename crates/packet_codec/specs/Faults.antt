-- What is wrong with bytes that are no packet (profile; the header is that of IPbus 2.0).
use Rattle.std.specs.Prelude.{◌≡◌, ℕ, ◌<◌, ◌≤◌, ◌*◌, ◌%◌, ◌^◌, ◌⊎◌, List, length}
use Rattle.ipb_base.specs.Lists.{IsPrefix}
use Rattle.packet_codec.specs.declared.packet.TheConstants.{MAX_PACKET_WORDS}
use Rattle.packet_codec.specs.declared.packet.Order.{Order}
use Rattle.packet_codec.specs.declared.packet.Order.TheVariants.{Big, Little}
use Rattle.packet_codec.specs.declared.packet.PacketKind.TheVariants.{Control}
use Rattle.packet_codec.specs.declared.packet.Packet.{Packet}
use Rattle.packet_codec.specs.Header.{kind_code, packet_header}
use Rattle.packet_codec.specs.Packet.{word_in_order, packet_bytes, IsPacket}

-- the length of a packet: whole words, at least one and no more than a packet has
pub record HasPacketLength (bytes : List ℕ) : Type 0 where
  pub some : 0 < length bytes
  pub whole : length bytes % 4 ≡ 0
  pub short : length bytes ≤ 4 * MAX_PACKET_WORDS

-- whole words, more than a packet has
pub record IsTooLong (bytes : List ℕ) : Type 0 where
  pub whole : length bytes % 4 ≡ 0
  pub long : 4 * MAX_PACKET_WORDS < length bytes

-- the bytes begin with a header of this type in this order
pub record HasHeader (order : Order) (kind : ℕ) (bytes : List ℕ) : Type 0 where
  pub id : ℕ
  pub id_fits : id < 2 ^ 16
  pub begins : IsPrefix (word_in_order order (packet_header id kind)) bytes

-- the bytes begin with a header in an order that its type allows, where any type may be big-endian, known or not
abbrev pub HasAllowedHeader : List ℕ → Type 0
HasAllowedHeader bytes =
    ((kind : ℕ) × (kind < 2 ^ 4) × HasHeader Big kind bytes) ⊎ HasHeader Little (kind_code Control) bytes

-- the bytes begin with a big-endian header of a type above 2
abbrev pub HasUnknownKind : List ℕ → Type 0
HasUnknownKind bytes = (kind : ℕ) × (2 < kind) × (kind < 2 ^ 4) × HasHeader Big kind bytes

-- the bytes are the spelling of a packet
abbrev pub IsSpelling : List ℕ → Type 0
IsSpelling bytes = (packet : Packet) × IsPacket packet × (bytes ≡ packet_bytes packet)
