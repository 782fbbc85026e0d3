-- A board and what it does with a datagram. IPbus 2.0: reliability mechanism, status packet, re-send request packet.
-- Profile: identifier 0 is executed at each arrival, what is too long is dropped, and an answer has the byte order of
-- its request.
use Rattle.std.specs.Prelude.{ℕ, ◌+◌, ◌-◌, ◌==◌, ◌||◌, nat_lt, Bool, true, false, if◌then◌else◌, List, [], ◌∷◌, ◌++◌}
use Rattle.std.specs.Prelude.{length, map, drop, Option, Some, None}
use Rattle.ipb_base.specs.Numbers.{payload_of}
use Rattle.packet_ids.specs.Identifier.{identifier_at}
use Rattle.packet_codec.specs.declared.packet.Order.{Order}
use Rattle.packet_codec.specs.declared.packet.Packet.{Packet}
use Rattle.packet_codec.specs.Packet.{packet_bytes}
use Rattle.status_packet.specs.Packets.{status_reply}
use Rattle.transaction_codec.specs.Answer.{reply_room}
use Rattle.board_bus.specs.Cells.{CellMap}
use Rattle.board_bus.specs.Bodies.{replay, run_body}
use Rattle.world_model.specs.declared.heard.Heard.{Heard}
use Rattle.world_model.specs.declared.heard.Heard.TheVariants.{Replied, StatusSent, Resent, Dropped}
use Rattle.world_model.specs.declared.heard.DropCause.{DropCause}
use Rattle.world_model.specs.declared.heard.DropCause.TheVariants.{NotPacket, TooLong, OtherId, NotHeld}
use Rattle.world_model.specs.declared.heard.LogEntry.{LogEntry}
use Rattle.world_model.specs.Messages.{ToBoard, StatusRequest, ResendRequest, ControlPacket, control_packet, to_board}

-- A board: the bus that it opened with, its MTU in bytes, the number of its response buffers, the identifier that it
-- expected first, and the control packets that it executed, in order. All else follows from these.
pub record Board : Type 0 where
  pub opening : CellMap
  pub mtu : ℕ
  pub buffers : ℕ
  pub first : ℕ
  pub log : List LogEntry

-- the bodies that it executed, in order, those of identifier 0 among them
abbrev pub body_of : LogEntry → List ℕ
body_of entry = entry.body

abbrev pub bodies_executed : Board → List (List ℕ)
bodies_executed board = map body_of board.log

-- the replies to them, and the bus that they left: those of a bus with a single thread
abbrev pub replies : Board → List (List ℕ)
replies board = (replay board.opening (bodies_executed board)).replies

abbrev pub present_bus : Board → CellMap
present_bus board = (replay board.opening (bodies_executed board)).cells

-- how many of the packets were numbered: identifier 0 does not count
abbrev pub numbered_count : List LogEntry → ℕ
numbered_count [] = 0
numbered_count (entry ∷ log) = (if entry.numbered then 1 else 0) + numbered_count log

-- the identifier that it expects next. IPbus 2.0, reliability mechanism.
abbrev pub expected_identifier : Board → ℕ
expected_identifier board = identifier_at board.first (numbered_count board.log + 1)

-- the replies to numbered packets as they were sent, in order; `place` is that of the next numbered packet
abbrev pub numbered_replies : ℕ → ℕ → List LogEntry → List (List ℕ) → List Packet
numbered_replies first place [] words = []
numbered_replies first place (entry ∷ log) [] = []
numbered_replies first place (entry ∷ log) (reply ∷ later) =
    if entry.numbered
    then control_packet entry.order (identifier_at first place) reply ∷ numbered_replies first (place + 1) log later
    else numbered_replies first place log later

-- the last items of a list, this many or all
abbrev pub last_of : {A : Type 0} → ℕ → List A → List A
last_of most xs = drop (length xs - most) xs

-- the replies that it holds: the last ones to numbered packets, as many as it has buffers
abbrev pub held_replies : Board → List Packet
held_replies board = last_of board.buffers (numbered_replies board.first 1 board.log (replies board))

abbrev pub with_id : ℕ → List Packet → Option Packet
with_id id [] = None
with_id id (packet ∷ packets) = if packet.id == id then Some packet else with_id id packets

-- a body that with its header, or whose longest reply with its header, is longer than a packet of the board's MTU
abbrev pub is_too_long : Board → List ℕ → Bool
is_too_long board body =
    nat_lt (payload_of board.mtu) (length body + 1) || nat_lt (payload_of board.mtu) (reply_room body + 1)

-- what a board did with a datagram, the bytes that it answers, none where it does not answer, and the board after it
pub record Hearing : Type 0 where
  pub heard : Heard
  pub answer : Option (List ℕ)
  pub board : Board

abbrev pub hearing_dropped : Board → DropCause → Hearing
hearing_dropped board cause = record { heard = Dropped cause; answer = None; board = board }

-- a status request: the MTU, the buffers and the expected identifier
abbrev pub tell_status : Board → Hearing
tell_status board = record {
  heard = StatusSent;
  answer = Some (packet_bytes (status_reply board.mtu board.buffers (expected_identifier board)));
  board = board;
}

-- a re-send request: the reply as it was first sent, where it is held
abbrev pub send_again : Board → Option Packet → Hearing
send_again board None = hearing_dropped board NotHeld
send_again board (Some packet) = record { heard = Resent; answer = Some (packet_bytes packet); board = board }

-- a control packet that is executed: its body on the present bus, the reply in its order and under its identifier
abbrev pub execute : Board → ℕ → LogEntry → Hearing
execute board id entry = record {
  heard = Replied;
  answer = Some (packet_bytes (control_packet entry.order id (run_body (present_bus board) entry.body).reply));
  board = record board { log = board.log ++ entry ∷ [] };
}

abbrev pub hear_control : Board → Order → ℕ → List ℕ → Hearing
hear_control board order id body =
    if is_too_long board body then hearing_dropped board TooLong
    else if id == 0 then execute board id (record { numbered = false; order = order; body = body })
    else if id == expected_identifier board then execute board id (record { numbered = true; order = order; body = body })
    else hearing_dropped board OtherId

abbrev pub hear_message : Board → Option ToBoard → Hearing
hear_message board None = hearing_dropped board NotPacket
hear_message board (Some StatusRequest) = tell_status board
hear_message board (Some (ResendRequest id)) = send_again board (with_id id (held_replies board))
hear_message board (Some (ControlPacket order id body)) = hear_control board order id body

-- what a board does with a datagram, whatever its bytes
abbrev pub hear : Board → List ℕ → Hearing
hear board bytes = hear_message board (to_board bytes)
