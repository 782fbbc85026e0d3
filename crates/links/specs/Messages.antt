-- What a hub reads in a datagram, as the code keeps it, and which sends it can write.
use Rattle.std.specs.Prelude.{◌≡◌, ◌⊎◌, ℕ, ◌≤◌, List, length, Option, Some, None}
use Rattle.packet_codec.specs.declared.packet.TheConstants.{MAX_BODY_WORDS}
use Rattle.reliable_engine.specs.Answers.{IsOpen}
use Rattle.world_model.specs.declared.sending.Sending.{Sending}
use Rattle.world_model.specs.declared.sending.Sending.TheVariants as sends
use Rattle.world_model.specs.Places.{at_place}
use Rattle.world_model.specs.Hub.{Hub, words_of}
use Rattle.packet_codec.specs.declared.packet.Packet.{Packet}
use Rattle.packet_codec.specs.declared.packet.PacketKind.TheVariants.{Control}
use Rattle.world_model.specs.Messages.{ToHub, StatusReply, Reply as ReplyTo, to_hub}
use Rattle.links.specs.declared.message.Message.{Message}
use Rattle.links.specs.declared.message.Message.TheVariants.{Reply, Status, Other}

-- A reply and a status are as they are told. All else is no message that a hub takes: bytes that say nothing to it, and
-- the reply to a packet with identifier 0, which a hub never sends.
abbrev pub IsTold : Option ToHub → Message → Type 0
IsTold told (Reply id words) = told ≡ Some (ReplyTo id words)
IsTold told (Status status) = told ≡ Some (StatusReply status.mtu status.buffers status.next)
IsTold told Other = (told ≡ None) ⊎ ((words : List ℕ) × (told ≡ Some (ReplyTo 0 words)))

abbrev pub IsRead : List ℕ → Message → Type 0
IsRead bytes message = IsTold (to_hub bytes) message

-- the reply that a packet is, where it is one
abbrev pub IsReplyIn : Packet → Message → Type 0
IsReplyIn packet (Reply id words) = (packet.kind ≡ Control) × (packet.id ≡ id) × (packet.body ≡ words)
IsReplyIn packet (Status status) = ⊥
IsReplyIn packet Other = (packet.kind ≡ Control → packet.id ≡ 0)

-- a send can be written: a control packet is that of an open place, and its body is not too long
abbrev pub IsWritable : Hub → Sending → Type 0
IsWritable hub sends.Status = Unit {0}
IsWritable hub (sends.Resend id) = Unit {0}
IsWritable hub (sends.Control place id) =
    IsOpen hub place × (length (words_of (at_place hub.sent place)) ≤ MAX_BODY_WORDS)
