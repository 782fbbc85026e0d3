-- What a hub reads in a datagram.
use Rattle.std.proofs.Common.{◌≡◌, inl, inr, ℕ, suc, ◌<◌, List, [], ◌∷◌, Option, Some, None}
use Rattle.std.proofs.Common.{refl, sym, ap, ◌∙◌, subst, get_or}
use Rattle.std.specs.Prelude.{◌↔◌}
use Rattle.packet_codec.specs.Packet.{AreBytes, IsPacket, packet_bytes}
use Rattle.packet_codec.specs.declared.packet.Order.{Order}
use Rattle.packet_codec.specs.declared.packet.Packet.{Packet}
use Rattle.packet_ids.specs.Identifier.{IsIdentifier}
use Rattle.status_packet.specs.Range.{IsMtu, IsBufferCount}
use Rattle.status_packet.specs.StatusBytes.{IsStatusReply}
use Rattle.world_model.specs.Messages.{ToHub, StatusReply, Reply as ReplyTo, control_packet, to_hub}
use Rattle.links.specs.declared.message.Message.{Message}
use Rattle.links.specs.declared.message.Message.TheVariants.{Reply, Status, Other}
use Rattle.links.specs.Messages.{IsRead, IsReplyIn}

-- a list whose items are all below 256 is one of bytes
pub are_bytes : (bytes : List ℕ) → ((i : ℕ) → get_or bytes i 0 < 256) → AreBytes bytes
are_bytes [] fits = tt
are_bytes (byte ∷ bytes) fits = (fits 0, are_bytes bytes (λ i. fits (suc i)))

-- a message that is neither a status nor a reply is none
nothing_told : (told : Option ToHub) → ((mtu buffers next : ℕ) → told ≡ Some (StatusReply mtu buffers next) → ⊥)
    → ((id : ℕ) (words : List ℕ) → told ≡ Some (ReplyTo id words) → ⊥) → told ≡ None
nothing_told None status reply = refl
nothing_told (Some (StatusReply mtu buffers next)) status reply = absurd (status mtu buffers next refl)
nothing_told (Some (ReplyTo id words)) status reply = absurd (reply id words refl)

-- what the laws say of what a hub reads, at these bytes
abbrev pub StatusLaw : List ℕ → Type 0
StatusLaw bytes = (mtu buffers next : ℕ) → (to_hub bytes ≡ Some (StatusReply mtu buffers next))
    ↔ (IsMtu mtu × IsBufferCount buffers × IsIdentifier next × IsStatusReply bytes mtu buffers next)

abbrev pub ReplyLaw : List ℕ → Type 0
ReplyLaw bytes = (id : ℕ) (words : List ℕ) → (to_hub bytes ≡ Some (ReplyTo id words))
    ↔ ((order : Order) × IsPacket (control_packet order id words)
    × (bytes ≡ packet_bytes (control_packet order id words)))

-- the bytes tell no status
abbrev pub TellNoStatus : List ℕ → Type 0
TellNoStatus bytes = (mtu buffers next : ℕ) → IsMtu mtu → IsBufferCount buffers → IsIdentifier next
    → IsStatusReply bytes mtu buffers next → ⊥

-- a control packet is the only packet that bytes spell, or none is spelled
abbrev pub Only : List ℕ → (Packet → Type 0) → Type 0
Only bytes is = (packet : Packet) → IsPacket packet → bytes ≡ packet_bytes packet → is packet

nothing_but : (bytes : List ℕ) → StatusLaw bytes → ReplyLaw bytes → TellNoStatus bytes
    → ((order : Order) (id : ℕ) (words : List ℕ) → IsPacket (control_packet order id words)
    → bytes ≡ packet_bytes (control_packet order id words) → ⊥) → to_hub bytes ≡ None
nothing_but bytes status reply no_status no_reply = nothing_told (to_hub bytes)
    (λ mtu buffers next is. let told = (status mtu buffers next).0 is in no_status mtu buffers next told.0 told.1 told.2
    told.3)
    (λ id words is. let told = (reply id words).0 is in no_reply told.0 id words told.1 told.2)

-- no packet is spelled
pub no_packet : (bytes : List ℕ) → StatusLaw bytes → ReplyLaw bytes → TellNoStatus bytes → Only bytes (λ _. ⊥)
    → to_hub bytes ≡ None
no_packet bytes status reply no_status none = nothing_but bytes status reply no_status
    (λ order id words packet spelled. none (control_packet order id words) packet spelled)

other_read : (bytes : List ℕ) (packet : Packet) (told : Option ToHub) → to_hub bytes ≡ told → ReplyLaw bytes
    → ((mtu buffers next : ℕ) → told ≡ Some (StatusReply mtu buffers next) → ⊥) → Only bytes (λ other. packet ≡ other)
    → IsReplyIn packet Other → IsRead bytes Other
other_read bytes packet None is reply no_status only in_it = inl is
other_read bytes packet (Some (StatusReply mtu buffers next)) is reply no_status only in_it =
    absurd (no_status mtu buffers next refl)
other_read bytes packet (Some (ReplyTo id words)) is reply no_status only in_it =
    let told = (reply id words).0 is in
    let same : packet ≡ control_packet told.0 id words = only (control_packet told.0 id words) told.1 told.2 in
    let zero : id ≡ 0 = sym (ap (λ (p : Packet). p.id) same) ∙ in_it (ap (λ (p : Packet). p.kind) same) in
    inr (words, is ∙ ap (λ (n : ℕ). Some (ReplyTo n words)) zero)

-- the packet that is spelled
pub packet_read : (bytes : List ℕ) (packet : Packet) (message : Message) → StatusLaw bytes → ReplyLaw bytes
    → TellNoStatus bytes → IsPacket packet → bytes ≡ packet_bytes packet → Only bytes (λ other. packet ≡ other)
    → IsReplyIn packet message → IsRead bytes message
packet_read bytes packet (Reply id words) status reply no_status is spelled only in_it =
    let same : packet ≡ control_packet packet.order id words =
    ap (λ k. record { order = packet.order; id = packet.id; kind = k; body = packet.body }) in_it.0
    ∙ (ap (λ (n : ℕ). control_packet packet.order n packet.body) in_it.1
    ∙ ap (λ (ws : List ℕ). control_packet packet.order id ws) in_it.2) in
    (reply id words).1 (packet.order, subst IsPacket same is, spelled ∙ ap packet_bytes same)
packet_read bytes packet (Status s) status reply no_status is spelled only in_it = absurd in_it
packet_read bytes packet Other status reply no_status is spelled only in_it =
    other_read bytes packet (to_hub bytes) refl reply (λ mtu buffers next told.
    let is = (status mtu buffers next).0 told in no_status mtu buffers next is.0 is.1 is.2 is.3) only in_it
