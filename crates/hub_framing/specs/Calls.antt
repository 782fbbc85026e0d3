-- Whole lives of a framer: the calls on it that change what it holds, in any order. Profile.
use Rattle.std.specs.Prelude.{◌≡◌, ℕ, List, [], ◌∷◌, ◌++◌}
use Rattle.hub_framing.specs.Frames.{RequestFrame, IsFrame, frame_bytes}

-- a piece of the stream was fed, or a frame was handed out
pub data FramerCall : Type 0 where
  Feed : List ℕ → FramerCall
  HandOut : RequestFrame → FramerCall

-- what one call makes of the bytes that were fed and not handed out
abbrev pub Step : FramerCall → List ℕ → List ℕ → Type 0
Step (Feed piece) old new = new ≡ old ++ piece
Step (HandOut frame) old new = IsFrame frame × (old ≡ frame_bytes frame ++ new)

-- what these calls, one after the other, make of them
abbrev pub Steps : List FramerCall → List ℕ → List ℕ → Type 0
Steps [] old new = new ≡ old
Steps (call ∷ calls) old new = (between : List ℕ) × Step call old between × Steps calls between new

-- all bytes that were fed, as one stream
abbrev pub fed_bytes : List FramerCall → List ℕ
fed_bytes [] = []
fed_bytes (Feed piece ∷ calls) = piece ++ fed_bytes calls
fed_bytes (HandOut frame ∷ calls) = fed_bytes calls

-- all frames that were handed out, in order
abbrev pub handed_out : List FramerCall → List RequestFrame
handed_out [] = []
handed_out (Feed piece ∷ calls) = handed_out calls
handed_out (HandOut frame ∷ calls) = frame ∷ handed_out calls
