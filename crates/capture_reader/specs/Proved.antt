-- What a capture proves that the board has executed: the packets up to a place in the order of the hub's first sends.
-- Profile, over the identifiers of IPbus 2.0.
use Rattle.std.specs.Prelude.{◌≡◌, ◌⊎◌, ℕ, ◌+◌, ◌≤◌, ◌==◌, ◌&&◌, Bool, true, false, if◌then◌else◌, List, [], ◌∷◌}
use Rattle.std.specs.Prelude.{Result, Ok, Err}
use Rattle.packet_ids.specs.Identifier.{IsIdentifier, identifier_at}
use Rattle.packet_codec.specs.declared.packet.Order.{Order}
use Rattle.packet_codec.specs.declared.packet.Order.TheVariants.{Big, Little}
use Rattle.packet_codec.specs.declared.packet.PacketKind.{PacketKind}
use Rattle.packet_codec.specs.declared.packet.PacketKind.TheVariants.{Control, Status, Resend}
use Rattle.packet_codec.specs.declared.packet.Head.{Head}
use Rattle.packet_codec.specs.declared.packet.BadPacket.{BadPacket}
use Rattle.packet_codec.specs.Reading.{packet_of, head_read}
use Rattle.status_packet.specs.Range.{IsMtu, IsBufferCount}
use Rattle.status_packet.specs.StatusBytes.{IsStatusReply}
use Rattle.capture_reader.specs.declared.capture.Caught.{Caught}
use Rattle.capture_reader.specs.declared.capture.Capture.{Capture}

abbrev pub is_big : Order → Bool
is_big Big = true
is_big Little = false

abbrev pub is_control : PacketKind → Bool
is_control Control = true
is_control Status = false
is_control Resend = false

-- bytes that begin as a big-endian control packet with this identifier, which they spell
abbrev pub is_big_control : ℕ → Result Head BadPacket → Bool
is_big_control id (Ok head) = is_big head.order && is_control head.kind && (head.id == id)
is_big_control id (Err fault) = false

-- The packets that were sent for the first time, after one datagram more: a sent big-endian control packet with the
-- identifier of the next place is one more.
abbrev pub sent_after : ℕ → ℕ → Caught → ℕ
sent_after first sent item =
    if item.sent && is_big_control (identifier_at first (sent + 1)) (head_read (packet_of item.bytes))
    then sent + 1
    else sent

-- a reply tells of the packet at a place that was sent: a control packet has its identifier
pub record ProvesByReply (first sent : ℕ) (bytes : List ℕ) (place : ℕ) : Type 0 where
  pub head : Head
  pub spelled : head_read (packet_of bytes) ≡ Ok head
  pub control : head.kind ≡ Control
  pub from_one : 1 ≤ place
  pub was_sent : place ≤ sent
  pub identifier : identifier_at first place ≡ head.id

-- a status reply expects the packet behind a place, which was sent or is the next
pub record ProvesByStatus (first sent : ℕ) (bytes : List ℕ) (place : ℕ) : Type 0 where
  pub mtu : ℕ
  pub buffers : ℕ
  pub next : ℕ
  pub mtu_range : IsMtu mtu
  pub buffer_range : IsBufferCount buffers
  pub identifier_range : IsIdentifier next
  pub told : IsStatusReply bytes mtu buffers next
  pub was_sent : place ≤ sent
  pub identifier : identifier_at first (place + 1) ≡ next

-- a received datagram shows that the packets up to this place were executed
abbrev pub Proves : ℕ → ℕ → Caught → ℕ → Type 0
Proves first sent item place =
    (item.sent ≡ false) × (ProvesByReply first sent item.bytes place ⊎ ProvesByStatus first sent item.bytes place)

-- one of the datagrams does, where so many packets were sent before them
abbrev pub HasProof : ℕ → ℕ → List Caught → ℕ → Type 0
HasProof first sent [] place = ⊥
HasProof first sent (item ∷ items) place =
    Proves first sent item place ⊎ HasProof first (sent_after first sent item) items place

-- the greatest place that a capture proves, or 0
pub record IsProved (capture : Capture) (place : ℕ) : Type 0 where
  pub greatest : (other : ℕ) → HasProof capture.first 0 capture.items other → other ≤ place
  pub shown : (place ≡ 0) ⊎ HasProof capture.first 0 capture.items place
