-- What a control packet is, by the packet that bytes spell.
use Rattle.std.proofs.Common.{◌≡◌, ℕ, ◌≤◌, List, [], ◌∷◌, length, get_or, suc, ◌<◌, None, Result}
use Rattle.std.proofs.Common.{Ok, Err, refl, ap, arith, ◌∙◌, ◌++◌, ◌+◌, ◌*◌, append_assoc}
use Rattle.packet_codec.specs.declared.packet.TheConstants.{MAX_BODY_WORDS}
use Rattle.packet_codec.specs.declared.packet.BadPacket.{BadPacket}
use Rattle.packet_codec.specs.declared.packet.Packet.{Packet}
use Rattle.packet_codec.specs.Packet.{AreBytes, packet_bytes, packet_words}
use Rattle.packet_codec.specs.Reading.{packet_of}
use Rattle.packet_codec.proofs.WordLemmas.{length-in_order}
use Rattle.packet_codec.specs.declared.packet.Order.{Order}
use Rattle.lane_record.specs.declared.outcome.Outcome.TheVariants.{Replied}
use Rattle.hub_framing.specs.Frames.{most_packet_bytes, reply_bytes, reply_head}
use Rattle.hub_session.specs.Codes.{replied_code}
use Rattle.hub_session.specs.Answers.{control_in, control_packet, if_control, reply_of_outcome, reply_packet}

pub packet_fits : (packet : Packet) → length packet.body ≤ MAX_BODY_WORDS
    → length (packet_bytes packet) ≤ most_packet_bytes
packet_fits packet few = omega (arith, few, length-in_order packet.order (packet_words packet))

by_read : (bytes : List ℕ) (read : Result Packet BadPacket) → packet_of bytes ≡ read
    → control_packet bytes ≡ control_in read
by_read bytes read is = ap control_in is

pub control_of : (bytes : List ℕ) (packet : Packet) → packet_of bytes ≡ Ok packet
    → control_packet bytes ≡ if_control packet packet.kind
control_of bytes packet is = by_read bytes (Ok packet) is

no_control_by : (bytes : List ℕ) (read : Result Packet BadPacket) → packet_of bytes ≡ read
    → ((packet : Packet) → packet_of bytes ≡ Ok packet → ⊥) → control_packet bytes ≡ None
no_control_by bytes (Ok packet) is not = absurd (not packet is)
no_control_by bytes (Err fault) is not = by_read bytes (Err fault) is

pub no_control : (bytes : List ℕ) → ((packet : Packet) → packet_of bytes ≡ Ok packet → ⊥)
    → control_packet bytes ≡ None
no_control bytes not = no_control_by bytes (packet_of bytes) refl not

-- a list whose items are all below 256 is one of bytes
pub are_bytes : (bytes : List ℕ) → ((i : ℕ) → get_or bytes i 0 < 256) → AreBytes bytes
are_bytes [] fits = tt
are_bytes (byte ∷ bytes) fits = (fits 0, are_bytes bytes (λ i. fits (suc i)))

-- the head of a reply frame was appended, and then its packet
pub replied_behind : (old mid new : List ℕ) (board : ℕ) (order : Order) (id : ℕ) (words : List ℕ)
    → mid ≡ old ++ reply_head board replied_code (4 + 4 * length words)
    → new ≡ mid ++ packet_bytes (reply_packet order id words)
    → new ≡ old ++ reply_bytes (reply_of_outcome board order id (Replied 0 words))
replied_behind old mid new board order id words head packet =
    let p = packet_bytes (reply_packet order id words) in
    let long : 4 + 4 * length words ≡ length p =
    omega (arith, length-in_order order (packet_words (reply_packet order id words))) in
    packet ∙ (ap (λ (l : List ℕ). l ++ p) head
    ∙ (append_assoc old (reply_head board replied_code (4 + 4 * length words)) p
    ∙ ap (λ (n : ℕ). old ++ (reply_head board replied_code n ++ p)) long))
