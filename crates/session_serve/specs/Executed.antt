-- Which bodies boards executed, whatever came of the connections: those of frames that came from them. Profile.
use Rattle.std.specs.Prelude.{◌≡◌, ◌==◌, ℕ, ◌+◌, if◌then◌else◌, List, [], ◌∷◌, ◌++◌, map, Option, Some, None, IfSome}
use Rattle.std.specs.List.{AllByRecursion, filter_map}
use Rattle.std.specs.Io.KnownBytes.{prepend_known}
use Rattle.packet_codec.specs.declared.packet.Packet.{Packet}
use Rattle.ipb_outside.specs.Pairs.{PairReport}
use Rattle.world_model.specs.Board.{Board, bodies_executed}
use Rattle.board_history.specs.Merges.{IsMergeOfSome}
use Rattle.board_history.specs.Links.{LinkReport, board_there}
use Rattle.hub_framing.specs.Frames.{RequestFrame, IsFrame, frames_bytes}
use Rattle.hub_session.specs.Answers.{control_packet}

-- ---- the frames of connections

-- the body that a frame has for the board at a position: that of its control packet
abbrev pub body_in : Option Packet → Option (List ℕ)
body_in None = None
body_in (Some packet) = Some packet.body

abbrev pub body_for : ℕ → RequestFrame → Option (List ℕ)
body_for position frame = if frame.board == position then body_in (control_packet frame.packet) else None

-- those of frames, in order
abbrev pub bodies_for : ℕ → List RequestFrame → List (List ℕ)
bodies_for position frames = filter_map (body_for position) frames

-- Frames came from a connection: what was read of it begins with them, one behind the other.
pub record HasSent (frames : List RequestFrame) (came back : PairReport) : Type 0 where
  pub bytes : List ℕ
  pub taken : came.left ≡ prepend_known bytes back.left
  pub rest : List ℕ
  pub spelled : bytes ≡ frames_bytes frames ++ rest
  pub each_frame : AllByRecursion IsFrame frames

-- so of each connection, in order
abbrev pub HaveSent : List (List RequestFrame) → List PairReport → List PairReport → Type 0
HaveSent [] [] [] = Unit {0}
HaveSent (frames ∷ later) (came ∷ cames) (back ∷ backs) = HasSent frames came back × HaveSent later cames backs
HaveSent connections cames backs = ⊥

-- ---- what boards executed

-- Where the link of the board at a position tells, what the board executed is a merge of bodies that these frames have
-- for it, some of each connection's, in the order of its frames.
abbrev pub HasExecutedOnly : ℕ → List (List RequestFrame) → LinkReport → Type 0
HasExecutedOnly position connections link = IfSome (board_there link.telling)
    (λ (board : Board). IsMergeOfSome (map (bodies_for position) connections) (bodies_executed board))

-- so of all boards, the first of which has this position
abbrev pub HaveExecutedOnly : ℕ → List (List RequestFrame) → List LinkReport → Type 0
HaveExecutedOnly position connections [] = Unit {0}
HaveExecutedOnly position connections (link ∷ links) =
    HasExecutedOnly position connections link × HaveExecutedOnly (position + 1) connections links

-- Frames came from the connections, and over these links, those of the first boards in order, no board executed a body
-- that none of them had for it.
pub record CameInFrames (links : List LinkReport) (came back : List PairReport) : Type 0 where
  pub connections : List (List RequestFrame)
  pub sent : HaveSent connections came back
  pub executed' : HaveExecutedOnly 0 connections links
