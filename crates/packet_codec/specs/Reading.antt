-- Reading a packet: a function on lists, step by step, for definitions that go on from what bytes spell. That it is the
-- grammar of Packet.antt, both ways, is the law `reading_is_the_grammar`.
use Rattle.std.specs.Prelude.{ℕ, zero, suc, ◌*◌, ◌/◌, ◌%◌, ◌^◌, ◌&&◌, ◌==◌, nat_lt, if◌then◌else◌}
use Rattle.std.specs.Prelude.{List, length, map, take, drop}
use Rattle.std.specs.Prelude.{Option, Some, None, Result, Ok, Err, ◌≡◌, ◌⊎◌, IsOk, MatchResult}
use Rattle.std.specs.Int.{w32, from_be_bytes, from_le_bytes}
use Rattle.std.specs.Simd.{first_chunks}
use Rattle.packet_codec.specs.declared.packet.TheConstants.{MAX_PACKET_WORDS}
use Rattle.packet_codec.specs.declared.header.Header.{Header}
use Rattle.packet_codec.specs.declared.packet.Order.{Order}
use Rattle.packet_codec.specs.declared.packet.Order.TheVariants.{Big, Little}
use Rattle.packet_codec.specs.declared.packet.PacketKind.{PacketKind}
use Rattle.packet_codec.specs.declared.packet.PacketKind.TheVariants.{Control, Status, Resend}
use Rattle.packet_codec.specs.declared.packet.Packet.{Packet}
use Rattle.packet_codec.specs.declared.packet.Head.{Head}
use Rattle.packet_codec.specs.declared.packet.BadPacket.{BadPacket}
use Rattle.packet_codec.specs.declared.packet.BadPacket.TheVariants as faults
use Rattle.ipb_base.specs.declared.version.TheConstants.{VERSION}
use Rattle.packet_codec.specs.declared.header.TheConstants.{BYTE_ORDER_QUALIFIER}
use Rattle.packet_codec.specs.Header.{kind_code}
use Rattle.packet_codec.specs.Packet.{head_of}

-- the fields of a word that is a packet header
abbrev pub header_of : ℕ → Option Header
header_of word =
    if (word / 2 ^ 24 == VERSION * 2 ^ 4) && (word / 2 ^ 4 % 2 ^ 4 == BYTE_ORDER_QUALIFIER)
    then Some (record { id = word / 2 ^ 8 % 2 ^ 16; kind = word % 2 ^ 4 })
    else None

-- the word that four bytes are
abbrev pub word_from : Order → List ℕ → ℕ
word_from Big bytes = from_be_bytes w32 bytes
word_from Little bytes = from_le_bytes w32 bytes

-- the type that a type field stands for
abbrev pub known_kind : ℕ → Option PacketKind
known_kind zero = Some Control
known_kind (suc zero) = Some Status
known_kind (suc (suc zero)) = Some Resend
known_kind (suc (suc (suc code))) = None

-- the head of a packet with a big-endian header: its type is looked up
abbrev pub big_start : ℕ → Option PacketKind → Result Head BadPacket
big_start id None = Err faults.Kind
big_start id (Some kind) = Ok (record { order = Big; id = id; kind = kind })

-- the head of a packet with a little-endian header: it is a control packet's, or none
abbrev pub little_start : Option Header → Result Head BadPacket
little_start None = Err faults.Header
little_start (Some header) =
    if header.kind == kind_code Control
    then Ok (record { order = Little; id = header.id; kind = Control })
    else Err faults.Header

-- the head by the first word read in either order: no word is a header in both
abbrev pub start_by : Option Header → Option Header → Result Head BadPacket
start_by (Some big) little = big_start big.id (known_kind big.kind)
start_by None little = little_start little

-- the head that the first word is, in the order in which it is a header
unfoldable pub start_of : List ℕ → Result Head BadPacket
start_of first = start_by (header_of (word_from Big first)) (header_of (word_from Little first))

-- the words that bytes are, four bytes each
abbrev pub words_of : Order → List ℕ → List ℕ
words_of order bytes = map (word_from order) (first_chunks 4 (length bytes / 4) bytes)

-- the rules on the number of bytes
abbrev pub length_rule : ℕ → Result (Unit {0}) BadPacket
length_rule n =
    if n == 0 then Err faults.Empty
    else if (n % 4 == 0) then (if nat_lt (4 * MAX_PACKET_WORDS) n then Err faults.Long else Ok tt)
    else Err faults.Ragged

infixl 10 ◌>>=◌
abbrev pub ◌>>=◌ : {A B : Type 0} → Result A BadPacket → (A → Result B BadPacket) → Result B BadPacket
(Ok x) >>= f = f x
(Err e) >>= f = Err e

-- the packet that the bytes spell, or the first rule that they break
unfoldable pub packet_of : List ℕ → Result Packet BadPacket
packet_of bytes = do
  _ ← length_rule (length bytes)
  start ← start_of (take 4 bytes)
  Ok (record { order = start.order; id = start.id; kind = start.kind; body = words_of start.order (drop 4 bytes) })

-- the head of the packet that was read, or why none was
abbrev pub head_read : Result Packet BadPacket → Result Head BadPacket
head_read (Ok packet) = Ok (head_of packet)
head_read (Err fault) = Err fault

-- What was answered is what reading gives, but want of memory may stand for a packet.
abbrev pub Gives : Result Packet BadPacket → Result Packet BadPacket → Type 0
Gives result read =
    MatchResult result (λ packet. read ≡ Ok packet) (λ error. (read ≡ Err error)
    ⊎ ((error ≡ faults.NoMemory) × IsOk read))
