-- What has a spelling as a packet, and its spelling (IPbus 2.0, packet header; profile: the length, and which packets
-- may be little-endian).
use Rattle.std.specs.Prelude.{◌≡◌, ℕ, ◌<◌, ◌≤◌, ◌^◌, List, ◌∷◌, length}
use Rattle.std.specs.List.{AllByRecursion, flat_map}
use Rattle.std.specs.Int.{w32, to_le_bytes}
use Rattle.ipb_base.specs.Word.{AreWords, word_bytes}
use Rattle.packet_codec.specs.declared.packet.TheConstants.{MAX_BODY_WORDS}
use Rattle.packet_codec.specs.declared.packet.Order.{Order}
use Rattle.packet_codec.specs.declared.packet.Order.TheVariants.{Big, Little}
use Rattle.packet_codec.specs.declared.packet.PacketKind.TheVariants.{Control}
use Rattle.packet_codec.specs.declared.packet.Head.{Head}
use Rattle.packet_codec.specs.declared.packet.Packet.{Packet}
use Rattle.packet_codec.specs.Header.{kind_code, packet_header}

-- a number of 8 bits
abbrev pub IsByte : ℕ → Type 0
IsByte n = n < 2 ^ 8

abbrev pub AreBytes : List ℕ → Type 0
AreBytes bytes = AllByRecursion IsByte bytes

-- what stands before the body
abbrev pub head_of : Packet → Head
head_of packet = record { order = packet.order; id = packet.id; kind = packet.kind }

-- the packet with this head and this body
abbrev pub packet_with : Head → List ℕ → Packet
packet_with head body = record { order = head.order; id = head.id; kind = head.kind; body = body }

-- the four bytes of a word in a byte order
abbrev pub word_in_order : Order → ℕ → List ℕ
word_in_order Big word = word_bytes word
word_in_order Little word = to_le_bytes w32 word

-- the bytes of a list of words
abbrev pub in_order : Order → List ℕ → List ℕ
in_order order words = flat_map (word_in_order order) words

-- the header and the words after it
abbrev pub packet_words : Packet → List ℕ
packet_words packet = packet_header packet.id (kind_code packet.kind) ∷ packet.body

-- the spelling of a packet
abbrev pub packet_bytes : Packet → List ℕ
packet_bytes packet = in_order packet.order (packet_words packet)

-- What has a spelling: the fields are in their ranges, and only control packets are little-endian.
pub record IsPacket (packet : Packet) : Type 0 where
  pub id : packet.id < 2 ^ 16
  pub body : AreWords packet.body
  pub length : length packet.body ≤ MAX_BODY_WORDS
  pub order : packet.order ≡ Little → packet.kind ≡ Control
