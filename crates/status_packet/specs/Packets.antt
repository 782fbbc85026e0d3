-- Status requests, status replies and re-send requests, as packets (IPbus 2.0, status packet and re-send request
-- packet; profile: zeros in the words of a reply that tell nothing).
use Rattle.std.specs.Prelude.{ℕ, List, [], ◌∷◌, ◌++◌, replicate}
use Rattle.packet_codec.specs.declared.packet.Order.TheVariants.{Big}
use Rattle.packet_codec.specs.declared.packet.PacketKind.TheVariants.{Control, Status, Resend}
use Rattle.packet_codec.specs.declared.packet.Packet.{Packet}
use Rattle.packet_codec.specs.Header.{kind_code, packet_header}

-- the request: a status packet of 15 zero words
abbrev pub status_request : Packet
status_request = record { order = Big; id = 0; kind = Status; body = replicate 15 0 }

-- the words of a status: the MTU in bytes, the number of buffers, and the header of the next expected packet
abbrev pub status_words : ℕ → ℕ → ℕ → List ℕ
status_words mtu buffers next = mtu ∷ buffers ∷ packet_header next (kind_code Control) ∷ []

-- the reply: a status packet of these words and twelve zero words
abbrev pub status_reply : ℕ → ℕ → ℕ → Packet
status_reply mtu buffers next =
    record { order = Big; id = 0; kind = Status; body = status_words mtu buffers next ++ replicate 12 0 }

-- the request for the reply to the control packet with this identifier: a packet without a body
abbrev pub resend_request : ℕ → Packet
resend_request id = record { order = Big; id = id; kind = Resend; body = [] }
