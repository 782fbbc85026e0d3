-- What either side writes is read by the other.
use Rattle.std.proofs.Common.{◌≡◌, ℕ, ◌<◌, ◌^◌, List, [], length}
use Rattle.std.proofs.Common.{Some, Ok, refl, ap, ◌∙◌, arith, rules}
use Rattle.std.proofs.lemmas.Bool.{le-leb}
use Rattle.ipb_base.proofs.WordLemmas.{AreWords-zeros}
use Rattle.packet_codec.specs.declared.packet.Order.{Order}
use Rattle.packet_codec.specs.declared.packet.Packet.{Packet}
use Rattle.packet_codec.specs.Header.{packet_header}
use Rattle.packet_codec.specs.Packet.{packet_bytes, IsPacket}
use Rattle.packet_codec.specs.Reading.{header_of}
use Rattle.packet_ids.specs.Identifier.{IsIdentifier}
use Rattle.status_packet.specs.Range.{IsMtu, IsBufferCount}
use Rattle.status_packet.specs.Packets.{status_request, status_reply, resend_request}
use Rattle.world_model.specs.Messages.{StatusRequest, ResendRequest, ControlPacket, StatusReply, Reply}
use Rattle.world_model.specs.Messages.{control_packet, packet_to_board, packet_to_hub, to_board, to_hub, status_with}
use Rattle.world_model.specs.Facts.{IsSendable}
use Rattle.world_model.specs.Below.{ReadsBack}

module _ (back : ReadsBack) where
  pub board_reads : (p : Packet) → IsPacket p → to_board (packet_bytes p) ≡ packet_to_board (Ok p)
  unfolding to_board
  board_reads p is = ap packet_to_board (back.packet p is)

  pub hub_reads : (p : Packet) → IsPacket p → to_hub (packet_bytes p) ≡ packet_to_hub (Ok p)
  unfolding to_hub
  hub_reads p is = ap packet_to_hub (back.packet p is)

  -- a body that can be sent makes a control packet in either order
  pub is_control_packet : (order : Order) (id : ℕ) (body : List ℕ) → id < 2 ^ 16 → IsSendable body
      → IsPacket (control_packet order id body)
  is_control_packet order id body fits is = record { id = fits; body = is.words; length = is.short; order = λ _. refl }

  pub control_read : (order : Order) (id : ℕ) (body : List ℕ) → id < 2 ^ 16 → IsSendable body
      → to_board (packet_bytes (control_packet order id body)) ≡ Some (ControlPacket order id body)
  control_read order id body fits is = board_reads (control_packet order id body)
      (is_control_packet order id body fits is)

  pub reply_read : (order : Order) (id : ℕ) (words : List ℕ) → id < 2 ^ 16 → IsSendable words
      → to_hub (packet_bytes (control_packet order id words)) ≡ Some (Reply id words)
  reply_read order id words fits is = hub_reads (control_packet order id words)
      (is_control_packet order id words fits is)

  pub request_read : to_board (packet_bytes status_request) ≡ Some StatusRequest
  request_read = board_reads status_request (record {
    id = omega arith;
    body = search rules;
    length = omega arith;
    order = λ e. absurd (cc);
  })

  pub resend_read : (id : ℕ) → id < 2 ^ 16 → to_board (packet_bytes (resend_request id)) ≡ Some (ResendRequest id)
  resend_read id fits = board_reads (resend_request id) (record
      { id = fits; body = tt; length = omega arith; order = λ e. absurd (cc) })

  header_fits : (next : ℕ) → next < 2 ^ 16 → packet_header next 0 < 2 ^ 32
  header_fits next h = omega arith

  pub status_is : (mtu buffers next : ℕ) → IsMtu mtu → IsBufferCount buffers → IsIdentifier next
      → status_with mtu buffers (header_of (packet_header next 0)) ≡ Some (StatusReply mtu buffers next)
  status_is mtu buffers next mtu_is buffers_is next_is =
      rw (
        back.header next 0 (omega (arith, next_is.up_to_end)) (omega arith),
        le-leb _ _ mtu_is.0,
        le-leb _ _ mtu_is.1,
        le-leb _ _ buffers_is.0,
        le-leb _ _ buffers_is.1,
        le-leb _ _ next_is.from_one,
        le-leb _ _ next_is.up_to_end,
      ) refl

  pub status_read : (mtu buffers next : ℕ) → IsMtu mtu → IsBufferCount buffers → IsIdentifier next
      → to_hub (packet_bytes (status_reply mtu buffers next)) ≡ Some (StatusReply mtu buffers next)
  status_read mtu buffers next mtu_is buffers_is next_is =
      hub_reads (status_reply mtu buffers next) (record {
        id = omega arith;
        body = (
          omega (arith, mtu_is.1),
          (
            omega (arith, buffers_is.1),
            (header_fits next (omega (arith, next_is.up_to_end)), AreWords-zeros 12),
          ),
        );
        length = omega arith;
        order = λ e. absurd (cc);
      }) ∙ status_is mtu buffers next mtu_is buffers_is next_is
