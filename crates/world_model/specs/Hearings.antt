-- A board that hears datagrams one after another.
use Rattle.std.specs.Prelude.{◌≡◌, ◌⊎◌, ℕ, ◌+◌, ◌<◌, ◌≤◌, Bool, false, if◌then◌else◌, List, [], ◌∷◌, ◌++◌, Some}
use Rattle.packet_codec.specs.declared.packet.Order.{Order}
use Rattle.packet_codec.specs.declared.packet.Packet.{Packet}
use Rattle.packet_ids.specs.Identifier.{identifier_at}
use Rattle.world_model.specs.declared.heard.Heard.{Heard}
use Rattle.world_model.specs.declared.heard.LogEntry.{LogEntry}
use Rattle.world_model.specs.Messages.{StatusRequest, ResendRequest, ControlPacket, to_board}
use Rattle.world_model.specs.Board.{Board, hear, is_too_long, numbered_count}

-- the board with more entries at the end of its log
abbrev pub grown : Board → List LogEntry → Board
grown board later = record board { log = board.log ++ later }

-- the board after datagrams
abbrev pub after : Board → List (List ℕ) → Board
after board [] = board
after board (datagram ∷ datagrams) = after (hear board datagram).board datagrams

-- what it did with each of them
abbrev pub heard_of : Board → List (List ℕ) → List Heard
heard_of board [] = []
heard_of board (datagram ∷ datagrams) = (hear board datagram).heard ∷ heard_of (hear board datagram).board datagrams

-- a status request or a re-send request
abbrev pub IsQuestion : List ℕ → Type 0
IsQuestion datagram =
    (to_board datagram ≡ Some StatusRequest) ⊎ ((id : ℕ) × (to_board datagram ≡ Some (ResendRequest id)))

-- a control packet with this identifier that is not too long for the board
abbrev pub IsShortControl : Board → ℕ → List ℕ → Type 0
IsShortControl board id datagram =
    (order : Order) × (body : List ℕ) × (to_board datagram ≡ Some (ControlPacket order id body))
    × (is_too_long board body ≡ false)

-- control packets with the identifiers of a place and of those after it, in turn
abbrev pub AreInTurn : Board → ℕ → List (List ℕ) → Type 0
AreInTurn board place [] = Unit {0}
AreInTurn board place (datagram ∷ datagrams) =
    IsShortControl board (identifier_at board.first place) datagram × AreInTurn board (place + 1) datagrams

-- the numbered packet at a place of a board's log is one of the last ones, as many as the board has buffers
pub record IsAmongLast (board : Board) (place : ℕ) : Type 0 where
  pub from_one : 1 ≤ place
  pub executed : place ≤ numbered_count board.log
  pub recent : numbered_count board.log < place + board.buffers

-- a packet that is kept where it was numbered
abbrev pub if_numbered : Bool → Packet → List Packet
if_numbered numbered packet = if numbered then packet ∷ [] else []
