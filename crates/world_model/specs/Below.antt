-- What the laws of the crates below say of packets and of buses, for the proofs here: no public clause speaks of it.
use Rattle.std.specs.Prelude.{◌≡◌, ℕ, ◌/◌, ◌%◌, ◌<◌, ◌≤◌, ◌^◌, List, ◌++◌, length, Some, Ok}
use Rattle.ipb_base.specs.Word.{AreWords}
use Rattle.packet_codec.specs.declared.header.Header.{Header}
use Rattle.packet_codec.specs.declared.packet.Order.{Order}
use Rattle.packet_codec.specs.declared.packet.Packet.{Packet}
use Rattle.packet_codec.specs.Header.{packet_header}
use Rattle.packet_codec.specs.Packet.{AreBytes, in_order, packet_bytes, IsPacket}
use Rattle.packet_codec.specs.Reading.{header_of, packet_of, words_of}
use Rattle.transaction_codec.specs.Answer.{CanAnswer, reply_room}
use Rattle.board_bus.specs.Cells.{CellMap, HoldsWords}
use Rattle.board_bus.specs.Bodies.{replay, run_body}

-- packets and their headers are read as they are spelled
pub record ReadsBack : Type 0 where
  pub packet : (packet : Packet) → IsPacket packet → packet_of (packet_bytes packet) ≡ Ok packet
  pub header : (id kind : ℕ) → id < 2 ^ 16 → kind < 2 ^ 4
      → header_of (packet_header id kind) ≡ Some (record { id = id; kind = kind })

-- and only so
pub record ReadsPackets : Type 0 where
  pub back : ReadsBack
  pub found : (bytes : List ℕ) (packet : Packet) → AreBytes bytes → packet_of bytes ≡ Ok packet
      → IsPacket packet × (bytes ≡ packet_bytes packet)
  pub header_found : (word : ℕ) (header : Header) → header_of word ≡ Some header
      → word ≡ packet_header header.id header.kind
  pub written_back : (order : Order) (bytes : List ℕ) → AreBytes bytes → length bytes % 4 ≡ 0
      → in_order order (words_of order bytes) ≡ bytes
  pub words : (order : Order) (bytes : List ℕ) → AreBytes bytes → AreWords (words_of order bytes)
  pub count : (order : Order) (bytes : List ℕ) → length (words_of order bytes) ≡ length bytes / 4

-- a bus of words answers a body of words by a reply to it, no longer than its room, and is a bus of words after it;
-- each body of a replay has one reply
pub record AnswersBodies : Type 0 where
  pub kept : (cells : CellMap) (body : List ℕ) → HoldsWords cells → AreWords body
      → HoldsWords (run_body cells body).cells
  pub answer : (cells : CellMap) (body : List ℕ) → HoldsWords cells → AreWords body
      → CanAnswer body (run_body cells body).reply
  pub room : (cells : CellMap) (body : List ℕ) → length (run_body cells body).reply ≤ reply_room body
  pub more : (cells : CellMap) (front back : List (List ℕ)) → (replay cells (front ++ back)).replies
      ≡ (replay cells front).replies ++ (replay (replay cells front).cells back).replies
  pub one_each : (cells : CellMap) (bodies : List (List ℕ)) → length (replay cells bodies).replies ≡ length bodies

pub record Below : Type 0 where
  pub packets : ReadsPackets
  pub bodies : AnswersBodies
