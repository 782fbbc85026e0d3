-- Frames on the stream of bytes between a client and the hub, all numbers big-endian. Profile.
use Rattle.std.specs.Prelude.{◌≡◌, ℕ, ◌+◌, ◌<◌, ◌≤◌, ◌^◌, List, [], ◌∷◌, ◌++◌, length, take}
use Rattle.std.specs.List.{AllByRecursion, flat_map}
use Rattle.std.specs.Int.{w16, w32, to_be_bytes, from_be_bytes}
use Rattle.ipb_base.specs.Word.{IsWord, word_bytes}

-- the least and the greatest number in the length field of a request frame, which counts the bytes behind it
abbrev pub least_length : ℕ
least_length = 8

abbrev pub greatest_length : ℕ
greatest_length = 8976

-- the most bytes of a packet in a frame
abbrev pub most_packet_bytes : ℕ
most_packet_bytes = 8972

-- a request frame, as contracts see it
pub record RequestFrame : Type 0 where
  -- the position of the board in the session, from 0
  pub board : ℕ
  -- the bytes of its packet
  pub packet : List ℕ

-- what the length field of a request frame says: four bytes for the board, and the packet
abbrev pub request_length : RequestFrame → ℕ
request_length frame = length frame.packet + 4

-- what has a spelling
pub record IsFrame (frame : RequestFrame) : Type 0 where
  pub board : IsWord frame.board
  pub shortest : least_length ≤ request_length frame
  pub longest : request_length frame ≤ greatest_length

-- the spelling of a request frame: the length of what follows, the board, the packet
abbrev pub frame_bytes : RequestFrame → List ℕ
frame_bytes frame = word_bytes (request_length frame) ++ (word_bytes frame.board ++ frame.packet)

-- the spellings of request frames, one behind the other
abbrev pub frames_bytes : List RequestFrame → List ℕ
frames_bytes frames = flat_map frame_bytes frames

-- The bytes of a stream are these frames, one behind the other, and then a rest at whose front no frame stands. A
-- length field out of range is at the front of the rest, since no frame has one.
pub record IsFrameStream (bytes : List ℕ) (frames : List RequestFrame) (rest : List ℕ) : Type 0 where
  pub whole : bytes ≡ frames_bytes frames ++ rest
  pub each : AllByRecursion IsFrame frames
  pub no_more : (frame : RequestFrame) (more : List ℕ) → IsFrame frame → ¬ (rest ≡ frame_bytes frame ++ more)

-- the number in the length field at the front of bytes, where its four bytes have come
abbrev pub length_field : List ℕ → ℕ
length_field bytes = from_be_bytes w32 (take 4 bytes)

-- The length field has come, and says more than any frame has.
abbrev pub IsTooLong : List ℕ → Type 0
IsTooLong bytes = (4 ≤ length bytes) × (greatest_length < length_field bytes)

-- The length field has come, and says less than any frame has.
abbrev pub IsTooShort : List ℕ → Type 0
IsTooShort bytes = (4 ≤ length bytes) × (length_field bytes < least_length)

-- Less than a whole frame has come, and its length field is in range, once it has come.
abbrev pub IsBegun : List ℕ → Type 0
IsBegun bytes = 4 ≤ length bytes
    → (least_length ≤ length_field bytes) × (length_field bytes ≤ greatest_length)
    × (length bytes < 4 + length_field bytes)

-- a reply frame
pub record ReplyFrame : Type 0 where
  -- the board, as the request named it
  pub board : ℕ
  -- what became of the request
  pub code : ℕ
  -- the bytes of the reply packet
  pub packet : List ℕ

pub record IsReplyFrame (frame : ReplyFrame) : Type 0 where
  pub board : IsWord frame.board
  pub code : frame.code < 2 ^ 16
  pub longest : length frame.packet ≤ most_packet_bytes

-- the spelling of a reply frame: the length of what follows, the board, the code, two zero bytes, the packet
abbrev pub reply_bytes : ReplyFrame → List ℕ
reply_bytes frame = word_bytes (length frame.packet + 8)
    ++ (word_bytes frame.board ++ (to_be_bytes w16 frame.code ++ (0 ∷ 0 ∷ frame.packet)))

-- what stands before the packet in a reply frame whose packet has so many bytes
abbrev pub reply_head : ℕ → ℕ → ℕ → List ℕ
reply_head board code count =
    word_bytes (count + 8) ++ (word_bytes board ++ (to_be_bytes w16 code ++ (0 ∷ 0 ∷ [])))
