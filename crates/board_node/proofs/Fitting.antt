-- How long an answer may be.
use Rattle.std.proofs.Common.{◌≡◌, ℕ, ◌+◌, ◌*◌, ◌≤◌, ◌==◌, true, false, List, [], ◌∷◌, length, Option, Some}
use Rattle.std.proofs.Common.{None, IfSome, refl, arith, length-append}
use Rattle.std.specs.List.{AllByRecursion}
use Rattle.ipb_base.specs.Numbers.{payload_of}
use Rattle.packet_codec.specs.declared.packet.Order.{Order}
use Rattle.packet_codec.specs.declared.packet.Order.TheVariants.{Big, Little}
use Rattle.packet_codec.specs.declared.packet.Packet.{Packet}
use Rattle.packet_codec.specs.Packet.{in_order, packet_bytes, packet_words, word_in_order}
use Rattle.status_packet.specs.Range.{IsMtu}
use Rattle.status_packet.specs.Packets.{status_reply}
use Rattle.transaction_codec.specs.Answer.{reply_room}
use Rattle.board_bus.specs.Cells.{CellMap}
use Rattle.board_bus.specs.Bodies.{run_body}
use Rattle.world_model.specs.declared.heard.LogEntry.{LogEntry}
use Rattle.world_model.specs.declared.heard.DropCause.{DropCause}
use Rattle.world_model.specs.declared.heard.DropCause.TheVariants.{NotPacket, TooLong, OtherId}
use Rattle.world_model.specs.Messages.{ToBoard, StatusRequest, ResendRequest, ControlPacket, control_packet, to_board}
use Rattle.world_model.specs.Board.{Board, Hearing, hearing_dropped, execute, expected_identifier, hear, hear_control, hear_message}
use Rattle.world_model.specs.Board.{held_replies, is_too_long, present_bus, send_again}
use Rattle.world_model.specs.Board.{tell_status, with_id}
use Rattle.board_node.specs.Answers.{answer_bytes}
use Rattle.board_node.specs.View.{FitsMtu}
use Rattle.board_node.proofs.Logs.{fits}
use Rattle.world_model.proofs.Lists.{either}

word_length : (order : Order) (word : ℕ) → length (word_in_order order word) ≡ 4
word_length Big word = refl
word_length Little word = refl

words_length : (order : Order) (words : List ℕ) → length (in_order order words) ≡ 4 * length words
words_length order [] = refl
words_length order (word ∷ words) =
    omega (
      arith,
      length-append (word_in_order order word) (in_order order words),
      word_length order word,
      words_length order words,
    )

fits_bytes : (mtu : ℕ) (packet : Packet) → FitsMtu mtu packet → length (packet_bytes packet) ≤ 4 * payload_of mtu
fits_bytes mtu packet fit = omega (arith, words_length packet.order (packet_words packet), fit)

-- the answer has no more bytes than the payload
abbrev pub IsFitting : Board → Hearing → Type 0
IsFitting b h = length (answer_bytes h.answer) ≤ 4 * payload_of b.mtu

none_fits : (b : Board) (cause : DropCause) → IsFitting b (hearing_dropped b cause)
none_fits b cause = omega arith

status_fits : (b : Board) → IsMtu b.mtu → IsFitting b (tell_status b)
status_fits b is =
    let long : length (packet_bytes (status_reply b.mtu b.buffers (expected_identifier b))) ≡ 64 =
    words_length Big (packet_words (status_reply b.mtu b.buffers (expected_identifier b))) in
    omega (arith, long, is.0)

found_fits : (P : Packet → Type 0) (id : ℕ) (packets : List Packet) → AllByRecursion P packets
    → IfSome (with_id id packets) P
found_fits P id [] all = tt
found_fits P id (p ∷ packets) all =
    either (λ (r : Option Packet). IfSome r P) (p.id == id) (Some p) (with_id id packets) (λ _. all.0)
    (λ _. found_fits P id packets all.1)

resent_fits : (b : Board) (found : Option Packet) → IfSome found (FitsMtu b.mtu) → IsFitting b (send_again b found)
resent_fits b None is = omega arith
resent_fits b (Some packet) is = fits_bytes b.mtu packet is

module _ (room : (cells : CellMap) (body : List ℕ) → length (run_body cells body).reply ≤ reply_room body) where
  executed_fits : (b : Board) (id : ℕ) (e : LogEntry) → is_too_long b e.body ≡ false → IsFitting b (execute b id e)
  executed_fits b id e short =
      let able = fits b e.body short in
      let within = room (present_bus b) e.body in
      fits_bytes b.mtu (control_packet e.order id (run_body (present_bus b) e.body).reply)
      (omega (arith, able.1, within))

  control_fits : (b : Board) (order : Order) (id : ℕ) (body : List ℕ) → IsFitting b (hear_control b order id body)
  control_fits b order id body =
      either (IsFitting b) (is_too_long b body) _ _ (λ _. none_fits b TooLong) (λ short.
      either (IsFitting b) (id == 0) _ _
      (λ _. executed_fits b id (record { numbered = false; order = order; body = body }) short) (λ _.
      either (IsFitting b) (id == expected_identifier b) _ _
      (λ _. executed_fits b id (record { numbered = true; order = order; body = body }) short)
      (λ _. none_fits b OtherId)))

  said_fits : (b : Board) (m : Option ToBoard) → IsMtu b.mtu → AllByRecursion (FitsMtu b.mtu) (held_replies b)
      → IsFitting b (hear_message b m)
  said_fits b None is all = none_fits b NotPacket
  said_fits b (Some StatusRequest) is all = status_fits b is
  said_fits b (Some (ResendRequest id)) is all =
      resent_fits b (with_id id (held_replies b)) (found_fits (FitsMtu b.mtu) id (held_replies b) all)
  said_fits b (Some (ControlPacket order id body)) is all = control_fits b order id body

  pub answer_fits : (b : Board) → IsMtu b.mtu → AllByRecursion (FitsMtu b.mtu) (held_replies b) → (datagram : List ℕ)
      → length (answer_bytes (hear b datagram).answer) + 28 ≤ b.mtu
  answer_fits b is all datagram =
      let fit = said_fits b (to_board datagram) is all in
      omega (arith, fit, is.0)
