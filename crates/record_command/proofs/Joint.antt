-- What the crates below say of hubs, links and packets, for the proofs here.
use Rattle.std.specs.Prelude.{◌≡◌, ◌↔◌, ℕ, List, ◌∷◌, min, Some}
use Rattle.ipb_base.specs.Lists.{IsPrefix}
use Rattle.packet_codec.specs.declared.packet.Order.{Order}
use Rattle.packet_codec.specs.Packet.{AreBytes, IsPacket, packet_bytes}
use Rattle.packet_ids.specs.Identifier.{IsIdentifier}
use Rattle.status_packet.specs.Range.{IsMtu, IsBufferCount}
use Rattle.status_packet.specs.StatusBytes.{IsStatusReply}
use Rattle.world_model.specs.declared.datagram.Datagram.{Datagram}
use Rattle.world_model.specs.declared.heard.LogEntry.{LogEntry}
use Rattle.world_model.specs.declared.offered.Fate.{Fate}
use Rattle.world_model.specs.declared.offered.Offered.{Offered}
use Rattle.world_model.specs.Below.{Below}
use Rattle.world_model.specs.Board.{Board}
use Rattle.world_model.specs.Hub.{Hub, hear_quiet, new_hub, offer, take_message}
use Rattle.world_model.specs.Messages.{Reply, StatusReply, control_packet, to_hub}
use Rattle.world_model.specs.Sends.{Next, bytes_to_send, next_send}
use Rattle.world_model.specs.Facts.{IsSendable, IsStart}
use Rattle.world_model.specs.Links.{IsHanded, IsHeard, IsJoined, Told, sent_on}

pub record Laws : Type 0 where
  pub below : Below
  pub begins : (window rounds : ℕ) (board : Board) (air : List Datagram) → IsStart window board air
      → IsJoined (new_hub board.first (min window board.buffers) rounds) (record { board = board; air = air })
  pub offered : (hub : Hub) (told : Told) (offered : Offered) → IsJoined hub told → IsSendable offered.body
      → IsJoined (offer hub offered) told
  pub sent : (hub : Hub) (told : Told) (next : Next) → IsJoined hub told → next_send hub ≡ Some next
      → IsJoined next.hub (sent_on told (bytes_to_send next.hub next.send))
  pub heard : (hub : Hub) (old new : Told) → IsJoined hub old → IsHeard old new → IsJoined hub new
  pub handed : (hub : Hub) (told : Told) (bytes : List ℕ) → IsJoined hub told → IsHanded told bytes
      → IsJoined (take_message hub (to_hub bytes)) told
  pub quiet : (hub : Hub) (told : Told) → IsJoined hub told → IsJoined (hear_quiet hub) told
  pub handed_out : (hub : Hub) (told : Told) (fate : ℕ × Fate) (fates : List (ℕ × Fate)) → IsJoined hub told
      → hub.fates ≡ fate ∷ fates → IsJoined (record hub { fates = fates }) told
  pub late : (hub : Hub) (told : Told) (late : ℕ × List ℕ) (lates : List (ℕ × List ℕ)) → IsJoined hub told
      → hub.lates ≡ late ∷ lates → IsJoined (record hub { lates = lates }) told
  pub log : (old new : Told) → IsHeard old new → IsPrefix {T = LogEntry} old.board.log new.board.log
  pub says_status : (bytes : List ℕ) (mtu buffers next : ℕ) → AreBytes bytes
      → (to_hub bytes ≡ Some (StatusReply mtu buffers next))
      ↔ (IsMtu mtu × IsBufferCount buffers × IsIdentifier next × IsStatusReply bytes mtu buffers next)
  pub says_reply : (bytes : List ℕ) (id : ℕ) (words : List ℕ) → AreBytes bytes
      → (to_hub bytes ≡ Some (Reply id words))
      ↔ ((order : Order) × IsPacket (control_packet order id words)
      × (bytes ≡ packet_bytes (control_packet order id words)))
