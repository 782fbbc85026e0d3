-- How the code reads a description, more leniently than one is written: what it read is described again and compared.
-- The private functions speak of it and no public clause does.
use Rattle.std.specs.Prelude.{ℕ, ◌-◌, ◌^◌, ◌==◌, ◌&&◌, ◌||◌, nat_le, nat_lt, if◌then◌else◌, Bool, true}
use Rattle.std.specs.Prelude.{false, List, [], ◌∷◌, length, codes, Option, Some, None}
use Rattle.std.specs.List.{flat_map}
use Rattle.std.specs.Int.{w32, from_be_bytes}
use Rattle.transaction_codec.specs.declared.transaction_type.TheConstants.{READ, WRITE, READ_PORT, WRITE_PORT, RMW_BITS}
use Rattle.transaction_codec.specs.declared.transaction_type.TheConstants.{RMW_SUM}
use Rattle.transaction_codec.specs.declared.info_code.TheConstants.{REQUEST}
use Rattle.transaction_codec.specs.Header.{header, is_write}
use Rattle.packet_codec.specs.declared.packet.TheConstants.{MAX_BODY_WORDS}
use Rattle.packet_codec.specs.declared.packet.Order.{Order}
use Rattle.packet_codec.specs.declared.packet.Order.TheVariants.{Big, Little}
use Rattle.packet_codec.specs.Packet.{packet_bytes}
use Rattle.status_packet.specs.Packets.{status_request, status_reply, resend_request}
use Rattle.capture_reader.specs.declared.capture.TheConstants.{MAX_DATAGRAM}
use Rattle.capture_reader.specs.declared.capture.Caught.{Caught}
use Rattle.capture_reader.specs.declared.parsing.FirstLine.{FirstLine}
use Rattle.capture_reader.specs.Rows.{control_packet}
use Rattle.ipb_base.specs.Fronts.{Front, behind, all_of, ◌>>=◌}
use Rattle.capture_reader.specs.Fronts.{with_text, shorter}
use Rattle.capture_reader.specs.Reading.{pair_at, number_at, bytes_at, direction_at}

-- a space and a word
unfoldable pub word_at : List ℕ → Front ℕ
word_at text = do
  rest ← behind (codes " 0x") text
  a ← pair_at rest
  b ← pair_at a.1
  c ← pair_at b.1
  d ← pair_at c.1
  Some (from_be_bytes w32 (a.0 ∷ b.0 ∷ c.0 ∷ d.0 ∷ []), d.1)

-- a space and a number
unfoldable pub count_at : List ℕ → Front ℕ
count_at text = do
  rest ← behind (codes " ") text
  number_at rest

abbrev pub verb_by : ℕ → Option (List ℕ) → Front ℕ → Front ℕ
verb_by kind (Some rest) others = Some (kind, rest)
verb_by kind None others = others

-- a verb; one that begins another is tried behind it
unfoldable pub verb_at : List ℕ → Front ℕ
verb_at text =
    verb_by READ_PORT (behind (codes "readport") text)
    (verb_by READ (behind (codes "read") text)
    (verb_by WRITE_PORT (behind (codes "writeport") text)
    (verb_by WRITE (behind (codes "write") text)
    (verb_by RMW_BITS (behind (codes "rmwbits") text)
    (verb_by RMW_SUM (behind (codes "rmwsum") text) None)))))

-- a transaction identifier and a verb
unfoldable pub start_at : List ℕ → Front (ℕ × ℕ)
start_at text = do
  rest ← behind (codes "  ") text
  tid ← number_at rest
  after ← behind (codes " ") tid.1
  verb ← verb_at after
  if nat_lt tid.0 (2 ^ 12) then Some ((tid.0, verb.0), verb.1) else None

-- how many words a request is for: those that a read tells, those of a write behind its address, or one
abbrev pub asked_at : ℕ → List ℕ × List ℕ → Front ℕ
asked_at kind (words, rest) =
    if kind == READ || kind == READ_PORT then count_at rest
    else if is_write kind then Some (length words - 1, rest)
    else Some (1, rest)

-- a line of words behind its header
abbrev pub line_with : ℕ → ℕ → ℕ → ℕ → List ℕ → Option (List ℕ) → Front (List ℕ)
line_with tid count kind code words rest =
    if nat_lt count (2 ^ 8) && nat_lt code (2 ^ 4) then with_text (header tid count kind code ∷ words) rest else None

unfoldable pub request_line_at : List ℕ → Front (List ℕ)
request_line_at text = do
  start ← start_at text
  asked ← asked_at start.0.1 (all_of word_at start.1)
  line_with start.0.0 asked.0 start.0.1 REQUEST (all_of word_at start.1).0 (behind (codes "\n") asked.1)

unfoldable pub reply_line_at : List ℕ → Front (List ℕ)
reply_line_at text = do
  start ← start_at text
  code ← count_at start.1
  count ← count_at code.1
  line_with start.0.0 count.0 start.0.1 code.0 (all_of word_at count.1).0
      (behind (codes "\n") (all_of word_at count.1).1)

abbrev pub line_of : Bool → List ℕ → Front (List ℕ)
line_of true text = request_line_at text
line_of false text = reply_line_at text

abbrev pub line_at : Bool → List ℕ → Front (List ℕ)
line_at sent text = shorter text (line_of sent text)

abbrev pub order_by : Option (List ℕ) → Option (List ℕ) → Front Order
order_by (Some rest) other = Some (Big, rest)
order_by None (Some rest) = Some (Little, rest)
order_by None None = None

unfoldable pub order_at : List ℕ → Front Order
order_at text = order_by (behind (codes " big\n") text) (behind (codes " little\n") text)

abbrev pub body_of : List (List ℕ) → List ℕ
body_of lines = flat_map (λ line. line) lines

-- the bytes of a control packet
abbrev pub packet_with : Order → ℕ → List (List ℕ) × List ℕ → Front (List ℕ)
packet_with order id (lines, rest) =
    if nat_le (length (body_of lines)) MAX_BODY_WORDS
    then Some (packet_bytes (control_packet order id (body_of lines)), rest)
    else None

-- a number of 16 bits
abbrev pub id_at : List ℕ → Front ℕ
id_at text = number_at text >>= (λ read. if nat_lt read.0 (2 ^ 16) then Some read else None)

unfoldable pub control_at : Bool → List ℕ → Front (List ℕ)
control_at sent text = do
  id ← id_at text
  order ← order_at id.1
  packet_with order.0 id.0 (all_of (line_at sent) order.1)

unfoldable pub resend_at : List ℕ → Front (List ℕ)
resend_at text = do
  id ← id_at text
  with_text (packet_bytes (resend_request id.0)) (behind (codes "\n") id.1)

unfoldable pub status_at : List ℕ → Front (List ℕ)
status_at text = do
  mtu ← number_at text
  buffers ← count_at mtu.1
  after ← behind (codes " ") buffers.1
  next ← id_at after
  with_text (packet_bytes (status_reply mtu.0 buffers.0 next.0)) (behind (codes "\n") next.1)

unfoldable pub status_request_at : List ℕ → Front (List ℕ)
status_request_at text = with_text (packet_bytes status_request) (behind (codes "request\n") text)

abbrev pub first_of : {A : Type 0} → Front A → Front A → Front A
first_of (Some read) other = Some read
first_of None other = other

abbrev pub said_by : Option (List ℕ) → (List ℕ → Front (List ℕ)) → Front (List ℕ) → Front (List ℕ)
said_by (Some rest) at others = at rest
said_by None at others = others

-- what a datagram says, behind its direction: its bytes
unfoldable pub said_at : Bool → List ℕ → Front (List ℕ)
said_at sent text =
    said_by (behind (codes "control ") text) (control_at sent)
    (said_by (behind (codes "raw ") text) bytes_at
    (said_by (behind (codes "resend ") text) resend_at
    (said_by (behind (codes "status ") text) (λ rest. first_of (status_at rest) (status_request_at rest)) None)))

-- a datagram of bytes, few enough
abbrev pub caught_with : Bool → List ℕ → List ℕ → Front Caught
caught_with sent bytes rest =
    if nat_le (length bytes) MAX_DATAGRAM then Some (record { sent = sent; bytes = bytes }, rest) else None

unfoldable pub datagram_of : List ℕ → Front Caught
datagram_of text = do
  sent ← direction_at text
  said ← said_at sent.0 sent.1
  caught_with sent.0 said.0 said.1

abbrev pub datagram_at : List ℕ → Front Caught
datagram_at text = shorter text (datagram_of text)

-- what the code answers, as lists: a header and the words behind it
abbrev pub line_read : List ℕ → FirstLine → List ℕ × List ℕ
line_read words first = (first.header ∷ words, first.rest.now)
