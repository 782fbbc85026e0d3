-- How an operation is cut into pieces. Each piece is one transaction, and the packet that carries its request or its
-- reply has at most `payload` words, the packet header included. Profile.
use Rattle.std.specs.Prelude.{ℕ, ◌+◌, ◌-◌, ◌*◌, ◌^◌, ◌≤◌, List, map, length, take, drop, min}
use Rattle.std.specs.Int.{div_ceil}
use Rattle.std.specs.List.{range_with_len}
use Rattle.ipb_base.specs.Word.{AreWords}
use Rattle.transaction_codec.specs.declared.request.Op.{Op}
use Rattle.transaction_codec.specs.declared.request.Op.TheVariants.{Read, ReadPort, Write, WritePort, RmwBits, RmwSum}
use Rattle.transaction_codec.specs.declared.header_word.TheConstants.{MAX_COUNT}
use Rattle.transaction_codec.specs.Request.{op_count, op_words}
use Rattle.mtu_packer.specs.declared.cutting.TheConstants.{HEADERS, ADDRESS}

-- The most words of one piece. The words field of a header ends at 255. The reply to a read has a packet header and a
-- header before its words, and the request of a write has an address too.
abbrev pub piece_limit : ℕ → Op → ℕ
piece_limit payload (Read base count) = min MAX_COUNT (payload - HEADERS)
piece_limit payload (ReadPort base count) = min MAX_COUNT (payload - HEADERS)
piece_limit payload (Write base words) = min MAX_COUNT (payload - HEADERS - ADDRESS)
piece_limit payload (WritePort base words) = min MAX_COUNT (payload - HEADERS - ADDRESS)
piece_limit payload (RmwBits base and_term or_term) = 1
piece_limit payload (RmwSum base addend) = 1

-- how many words of the operation stand before piece k, counted from 0
abbrev pub piece_offset : ℕ → Op → ℕ → ℕ
piece_offset payload op k = k * piece_limit payload op

-- the words of piece k: as many as one piece can have, and what is left in the last one
abbrev pub piece_length : ℕ → Op → ℕ → ℕ
piece_length payload op k = min (piece_limit payload op) (op_count op - piece_offset payload op k)

-- the part of an operation that skips `offset` words and has `count` words: its address goes on, but for a port
abbrev pub part_of : Op → ℕ → ℕ → Op
part_of (Read base all) offset count = Read (base + offset) count
part_of (ReadPort base all) offset count = ReadPort base count
part_of (Write base words) offset count = Write (base + offset) (take count (drop offset words))
part_of (WritePort base words) offset count = WritePort base (take count (drop offset words))
part_of (RmwBits base and_term or_term) offset count = RmwBits base and_term or_term
part_of (RmwSum base addend) offset count = RmwSum base addend

abbrev pub piece : ℕ → Op → ℕ → Op
piece payload op k = part_of op (piece_offset payload op k) (piece_length payload op k)

abbrev pub piece_count : ℕ → Op → ℕ
piece_count payload op = div_ceil (op_count op) (piece_limit payload op)

-- the pieces of an operation, in order
abbrev pub cut_pieces : ℕ → Op → List Op
cut_pieces payload op = map (piece payload op) (range_with_len 0 (piece_count payload op))

-- a block has a word at least, and its addresses stay within 32 bits
abbrev pub CanBeCut : Op → Type 0
CanBeCut (Read base count) = (1 ≤ count) × (base + count ≤ 2 ^ 32)
CanBeCut (ReadPort base count) = 1 ≤ count
CanBeCut (Write base words) = (1 ≤ length words) × (base + length words ≤ 2 ^ 32)
CanBeCut (WritePort base words) = 1 ≤ length words
CanBeCut (RmwBits base and_term or_term) = Unit {0}
CanBeCut (RmwSum base addend) = Unit {0}

-- its address and its words have 32 bits
abbrev pub HasWords : Op → Type 0
HasWords op = AreWords (op_words op)
