-- How the code keeps a board. The private functions speak of it and no public clause does.
use Rattle.std.specs.Prelude.{◌≡◌, ℕ, ◌+◌, ◌≤◌, Bool, if◌then◌else◌, [], ◌∷◌, ◌++◌, length, Option, Some, None}
use Rattle.std.specs.List.{AllByRecursion}
use denote.Bor.{Bor}
use Rattle.circular_buffer.specs.Buffer.{Buffer, buffer, keep_last}
use Rattle.ipb_base.specs.Numbers.{payload_of}
use Rattle.packet_codec.specs.declared.packet.Packet.{Packet}
use Rattle.packet_codec.specs.declared.packet.TheConstants.{MAX_BODY_WORDS}
use Rattle.status_packet.specs.Range.{IsMtu, IsBufferCount}
use Rattle.world_model.specs.Messages.{ToBoard, said_to_board}
use Rattle.world_model.specs.Board.{Board, held_replies, numbered_count, present_bus}
use Rattle.board_node.specs.Log.{IsLoggable}
use Rattle.board_node.specs.declared.board.Board.TheInside.{Inside}

-- the board: the present bus, the count and the ring are no part of it
abbrev pub board_of : Inside → Board
board_of b = record { opening = b.opening; mtu = b.mtu; buffers = b.buffers; first = b.first; log = b.log.items }

-- a packet that is not longer than a packet may be
abbrev pub IsShort : Packet → Type 0
IsShort packet = length packet.body ≤ MAX_BODY_WORDS

-- a packet that is not longer than the MTU allows
abbrev pub FitsMtu : ℕ → Packet → Type 0
FitsMtu mtu packet = length packet.body + 1 ≤ payload_of mtu

-- the bus is the one after the log, its numbered entries are counted, and the ring holds what the board holds
pub record IsCurrent (b : Inside) : Type 0 where
  pub mtu : IsMtu b.mtu
  pub buffers : IsBufferCount b.buffers
  pub bus : b.bus ≡ present_bus (board_of b)
  pub count : b.numbered ≡ numbered_count b.log.items
  pub kept : b.held ≡ buffer (held_replies (board_of b)) b.buffers
  pub fit : AllByRecursion (FitsMtu b.mtu) b.held.items
  pub logged : AllByRecursion (IsLoggable b.mtu) b.log.items

-- a ring after a packet that is kept where it was numbered
abbrev pub keeping : Buffer Packet → Bool → Packet → Buffer Packet
keeping ring numbered packet =
    if numbered then buffer (keep_last ring.capacity (ring.items ++ packet ∷ [])) ring.capacity else ring

-- what a packet says to a board, if there is one
abbrev pub said_by : Option Packet → Option ToBoard
said_by None = None
said_by (Some packet) = said_to_board packet.kind packet.order packet.id packet.body

-- the packet that is lent, if there is one
abbrev pub lent_packet : Option (Bor Packet) → Option Packet
lent_packet None = None
lent_packet (Some packet) = Some packet.now
