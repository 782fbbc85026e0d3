-- Frames worked by hand. Profile.
use Rattle.std.specs.Prelude.{ℕ, List, [], ◌∷◌, ◌++◌}
use Rattle.ipb_base.specs.Word.{word_bytes}
use Rattle.lane_record.specs.declared.outcome.Outcome.TheVariants.{Replied}
use Rattle.hub_lane.specs.declared.answers.BoardState.{BoardState}
use Rattle.hub_lane.specs.declared.answers.BoardState.TheVariants.{Lane, Silent, Down}
use Rattle.hub_framing.specs.Frames.{RequestFrame}
use Rattle.hub_session.specs.declared.got.Got.{Got}
use Rattle.hub_session.specs.declared.got.Got.TheVariants.{Came}

-- words as bytes, one behind the other
abbrev pub words : List ℕ → List ℕ
words [] = []
words (word ∷ later) = word_bytes word ++ words later

-- three boards: one with a lane, one that was silent, one whose link was down
abbrev pub three_boards : List BoardState
three_boards = Lane 0 ∷ Silent ∷ Down ∷ []

-- a read of one word at address 4, in a packet with identifier 0
abbrev pub read_request : List ℕ
read_request = words (0x200000f0 ∷ 0x2000010f ∷ 0x00000004 ∷ [])

abbrev pub read_at : ℕ → RequestFrame
read_at board = record { board = board; packet = read_request }

-- the same little-endian, with identifier 7
abbrev pub little_read : RequestFrame
little_read = record {
  board = 0;
  packet = 0xf0 ∷ 0x07 ∷ 0x00 ∷ 0x20 ∷ 0x0f ∷ 0x01 ∷ 0x00 ∷ 0x20 ∷ 0x04 ∷ 0x00 ∷ 0x00 ∷ 0x00 ∷ [];
}

-- a status request
abbrev pub status_request : RequestFrame
status_request = record { board = 0; packet = words (0x200000f1 ∷ []) }

-- the board replied with one word
abbrev pub one_word : Got
one_word = Came (Replied 1 (0x20000100 ∷ 0x0000abcd ∷ []))
