-- Which bytes are a status request and a status reply, whatever the words say that nobody looks at (IPbus 2.0, status
-- packet; profile: which words are looked at, and the ranges of the first three after the header).
use Rattle.std.specs.Prelude.{◌≡◌, ℕ, ◌⊎◌, List, [], ◌∷◌, length}
use Rattle.ipb_base.specs.Word.{AreWords, big_endian}
use Rattle.ipb_base.specs.Lists.{IsPrefix}
use Rattle.packet_ids.specs.Identifier.{IsIdentifier}
use Rattle.packet_codec.specs.declared.packet.PacketKind.TheVariants.{Control, Status}
use Rattle.packet_codec.specs.Header.{kind_code, packet_header}
use Rattle.status_packet.specs.declared.status.TheConstants.{STATUS_BYTES}
use Rattle.status_packet.specs.Range.{IsMtu, IsBufferCount}
use Rattle.status_packet.specs.Packets.{status_words}

-- the header of every status packet
abbrev pub status_header : ℕ
status_header = packet_header 0 (kind_code Status)

-- 64 bytes that begin with the header of a status packet
pub record IsStatusRequest (bytes : List ℕ) : Type 0 where
  pub whole : length bytes ≡ STATUS_BYTES
  pub begins : IsPrefix (big_endian (status_header ∷ [])) bytes

-- 64 bytes that begin as the reply with this status
pub record IsStatusReply (bytes : List ℕ) (mtu buffers next : ℕ) : Type 0 where
  pub whole : length bytes ≡ STATUS_BYTES
  pub begins : IsPrefix (big_endian (status_header ∷ status_words mtu buffers next)) bytes

-- the header of a control packet that a board may expect
abbrev pub IsNextHeader : ℕ → Type 0
IsNextHeader word = (next : ℕ) × IsIdentifier next × (word ≡ packet_header next (kind_code Control))

-- three words of which one or more is not what a status has there
abbrev pub IsNoStatus : ℕ → ℕ → ℕ → Type 0
IsNoStatus mtu buffers next = (¬ IsMtu mtu) ⊎ (¬ IsBufferCount buffers) ⊎ (¬ IsNextHeader next)

-- 64 bytes that begin with the header of a status packet and three such words
pub record IsOutOfRange (bytes : List ℕ) : Type 0 where
  pub whole : length bytes ≡ STATUS_BYTES
  pub mtu : ℕ
  pub buffers : ℕ
  pub next : ℕ
  pub words : AreWords (mtu ∷ buffers ∷ next ∷ [])
  pub begins : IsPrefix (big_endian (status_header ∷ mtu ∷ buffers ∷ next ∷ [])) bytes
  pub broken : IsNoStatus mtu buffers next
