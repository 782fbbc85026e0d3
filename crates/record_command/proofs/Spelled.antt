-- The datagrams of the air of a run: those for the hub are bytes, and the control packets for the board are big-endian.
use Rattle.std.proofs.Common.{◌≡◌, ℕ, zero, suc, ◌==◌, List, [], ◌∷◌}
use Rattle.std.proofs.Common.{Option, Some, None, Ok, ap, sym, subst, arith}
use Rattle.std.specs.List.{AllByRecursion}
use Rattle.std.specs.Int.{byte_at, bytes_high_first, bytes_low_first}
use Rattle.ipb_base.proofs.AllLemmas.{AllByRecursion-append}
use Rattle.packet_codec.specs.declared.packet.Order.{Order}
use Rattle.packet_codec.specs.declared.packet.Order.TheVariants.{Big, Little}
use Rattle.packet_codec.specs.declared.packet.Packet.{Packet}
use Rattle.packet_codec.specs.declared.packet.PacketKind.{PacketKind}
use Rattle.packet_codec.specs.declared.packet.PacketKind.TheVariants.{Control, Status, Resend}
use Rattle.packet_codec.specs.Packet.{AreBytes, IsByte, IsPacket, in_order, packet_bytes, packet_words, word_in_order}
use Rattle.status_packet.specs.Packets.{status_reply}
use Rattle.world_model.specs.declared.datagram.Datagram.{Datagram}
use Rattle.world_model.specs.declared.datagram.Direction.{Direction}
use Rattle.world_model.specs.declared.datagram.Direction.TheVariants as goes
use Rattle.world_model.specs.Messages.{ToBoard, StatusRequest, ResendRequest, ControlPacket, control_packet, packet_to_board, said_to_board, to_board}
use Rattle.board_bus.specs.Bodies.{run_body}
use Rattle.world_model.specs.Board.{present_bus}
use Rattle.world_model.specs.Board.{Board, Hearing, expected_identifier, hear, hear_message, held_replies, is_too_long, send_again, with_id}
use Rattle.world_model.specs.World.{air_after_answer}
use Rattle.world_model.specs.Facts.{IsGreeting, IsGreetingOf}
use Rattle.world_model.specs.Below.{Below}
use Rattle.world_model.proofs.Lists.{either}

abbrev pub IsBigTold : Option ToBoard → Type 0
IsBigTold None = Unit {0}
IsBigTold (Some StatusRequest) = Unit {0}
IsBigTold (Some (ResendRequest id)) = Unit {0}
IsBigTold (Some (ControlPacket order id body)) = order ≡ Big

abbrev pub IsSpelledTo : Direction → List ℕ → Type 0
IsSpelledTo goes.ToBoard bytes = IsBigTold (to_board bytes)
IsSpelledTo goes.ToHub bytes = AreBytes bytes

abbrev pub IsSpelled : Datagram → Type 0
IsSpelled datagram = IsSpelledTo datagram.direction datagram.bytes

-- ---- packets are bytes

byte_is : (i n : ℕ) → IsByte (byte_at i n)
byte_is zero n = omega arith
byte_is (suc i) n = omega arith

high_bytes : (count n : ℕ) → AreBytes (bytes_high_first count n)
high_bytes zero n = tt
high_bytes (suc count) n = (byte_is count n, high_bytes count n)

low_bytes : (i count n : ℕ) → AreBytes (bytes_low_first i count n)
low_bytes i zero n = tt
low_bytes i (suc count) n = (byte_is i n, low_bytes (suc i) count n)

word_is : (order : Order) (word : ℕ) → AreBytes (word_in_order order word)
word_is Big word = high_bytes 4 word
word_is Little word = low_bytes 0 4 word

words_are : (order : Order) (words : List ℕ) → AreBytes (in_order order words)
words_are order [] = tt
words_are order (word ∷ words) =
    AllByRecursion-append IsByte (word_in_order order word) (in_order order words) (word_is order word)
    (words_are order words)

pub packet_is : (packet : Packet) → AreBytes (packet_bytes packet)
packet_is packet = words_are packet.order (packet_words packet)

-- ---- what a board answers

abbrev pub AnswersBytes : Hearing → Type 0
AnswersBytes h = AllByRecursion IsSpelled (air_after_answer 0 h.answer)

again_bytes : (board : Board) (r : Option Packet) → AnswersBytes (send_again board r)
again_bytes board None = tt
again_bytes board (Some packet) = (packet_is packet, tt)

message_bytes : (board : Board) (m : Option ToBoard) → AnswersBytes (hear_message board m)
message_bytes board None = tt
message_bytes board (Some StatusRequest) =
    (packet_is (status_reply board.mtu board.buffers (expected_identifier board)), tt)
message_bytes board (Some (ResendRequest id)) = again_bytes board (with_id id (held_replies board))
message_bytes board (Some (ControlPacket order id body)) =
    either AnswersBytes (is_too_long board body) _ _ (λ _. tt)
    (λ _. either AnswersBytes (id == 0) _ _ (λ _. (packet_is (control_packet order id (run_body (present_bus board) body).reply), tt))
    (λ _. either AnswersBytes (id == expected_identifier board) _ _ (λ _. (packet_is (control_packet order id (run_body (present_bus board) body).reply), tt)) (λ _. tt)))

same_answer : (birth : ℕ) (answer : Option (List ℕ)) → AllByRecursion IsSpelled (air_after_answer 0 answer)
    → AllByRecursion IsSpelled (air_after_answer birth answer)
same_answer birth None is = tt
same_answer birth (Some bytes) is = is

pub answer_spelled : (board : Board) (bytes : List ℕ) (birth : ℕ)
    → AllByRecursion IsSpelled (air_after_answer birth (hear board bytes).answer)
answer_spelled board bytes birth = same_answer birth (hear board bytes).answer (message_bytes board (to_board bytes))

-- ---- a greeting

greeting_to : (board : Board) (way : Direction) (bytes : List ℕ) → IsGreetingOf board way bytes → IsSpelledTo way bytes
greeting_to board goes.ToBoard bytes e = subst IsBigTold (sym e) tt
greeting_to board goes.ToHub bytes e =
    subst AreBytes (sym e) (packet_is (status_reply board.mtu board.buffers board.first))

pub greeting_spelled : (board : Board) (datagram : Datagram) → IsGreeting board datagram → IsSpelled datagram
greeting_spelled board datagram is = greeting_to board datagram.direction datagram.bytes is.bytes

-- ---- a packet for the board

big_by : (packet : Packet) (kind : PacketKind) → packet.order ≡ Big
    → IsBigTold (said_to_board kind packet.order packet.id packet.body)
big_by packet Control big = big
big_by packet Status big = either IsBigTold _ (Some StatusRequest) None (λ _. tt) (λ _. tt)
big_by packet Resend big = either IsBigTold _ (Some (ResendRequest packet.id)) None (λ _. tt) (λ _. tt)

module _ (below : Below) where
  board_reads : (packet : Packet) → IsPacket packet → to_board (packet_bytes packet) ≡ packet_to_board (Ok packet)
  unfolding to_board
  board_reads packet is = ap packet_to_board (below.packets.back.packet packet is)

  pub packet_spelled : (packet : Packet) → IsPacket packet → packet.order ≡ Big
      → IsBigTold (to_board (packet_bytes packet))
  packet_spelled packet is big =
      subst IsBigTold (sym (board_reads packet is)) (big_by packet packet.kind big)
