-- The bodies of packed operations are read as requests.
use Rattle.std.proofs.Common.{ℕ, zero, suc, ◌+◌, ◌*◌, ◌^◌, ◌<◌, ◌≤◌, List, [], ◌∷◌, length, map, take}
use Rattle.std.proofs.Common.{drop, arith, length-append}
use Rattle.std.specs.Int.{div_ceil}
use Rattle.std.specs.List.{AllByRecursion, flat_map, range_with_len}
use Rattle.std.proofs.lemmas.Grind.{div_ceil_times}
use Rattle.std.proofs.lemmas.Nat.{mul-le}
use Rattle.ipb_base.specs.Word.{IsWord, AreWords}
use Rattle.ipb_base.proofs.AllLemmas.{AllByRecursion-append, front_of_all, back_of_all}
use Rattle.transaction_codec.specs.declared.request.Op.{Op}
use Rattle.transaction_codec.specs.declared.request.Op.TheVariants.{Read, ReadPort, Write, WritePort, RmwBits, RmwSum}
use Rattle.transaction_codec.specs.declared.request.Request.{Request}
use Rattle.transaction_codec.specs.Request.{AreRequests, op_count, request_words, requests_words}
use Rattle.mtu_packer.specs.Cutting.{CanBeCut, HasWords, cut_pieces, part_of, piece, piece_count, piece_length, piece_limit}
use Rattle.mtu_packer.specs.Cutting.{piece_offset}
use Rattle.mtu_packer.specs.Packing.{requests_from, body_words, Fits, AreReadable}
use Rattle.mtu_packer.specs.Progress.{FitsAlone}
use Rattle.mtu_packer.proofs.Pieces.{piece_limit-some}
use Rattle.mtu_packer.proofs.Steps.{some_words}

-- ---- from operations to bodies

two_words_each : (tid : ℕ) (part : List Op) → 2 * length part ≤ length (requests_words (requests_from tid part))
two_words_each tid [] = omega arith
two_words_each tid (op ∷ part) =
    omega (
      arith,
      two_words_each (tid + 1) part,
      some_words op,
      length-append
          (request_words (record { tid = tid; op = op })) (requests_words (requests_from (tid + 1) part)),
    )

part_readable : (payload tid : ℕ) (part : List Op) → AllByRecursion HasWords part
    → AllByRecursion (FitsAlone payload) part → tid + length part ≤ 2 ^ 12 → AreRequests (requests_from tid part)
part_readable payload tid [] words fit few = tt
part_readable payload tid (op ∷ part) words fit few = (
  record { tid = omega arith; count = omega (arith, fit.0.count); words = words.0 },
  part_readable payload (tid + 1) part words.1 fit.1 (omega arith),
)

pub all_readable : (payload : ℕ) (parts : List (List Op)) → payload ≤ 2243
    → AllByRecursion (AllByRecursion HasWords) parts → AllByRecursion (AllByRecursion (FitsAlone payload)) parts
    → AllByRecursion (Fits payload) parts → AreReadable parts
all_readable payload [] high words alone fits = tt
all_readable payload (part ∷ parts) high words alone fits = (
  part_readable payload 0 part words.0 alone.0 (omega (arith, two_words_each 0 part, fits.0.request)),
  all_readable payload parts high words.1 alone.1 fits.1,
)

-- ---- from bodies to operations

part_words : (tid : ℕ) (part : List Op) → AreWords (requests_words (requests_from tid part))
    → AllByRecursion HasWords part
part_words tid [] words = tt
part_words tid (op ∷ part) words =
    let request : Request = record { tid = tid; op = op } in
    let rest = requests_words (requests_from (tid + 1) part) in
    let own = front_of_all IsWord (request_words request) rest words in
    (own.1, part_words (tid + 1) part (back_of_all IsWord (request_words request) rest words))

pub all_words : (parts : List (List Op)) → AllByRecursion AreWords (map body_words parts)
    → AllByRecursion (AllByRecursion HasWords) parts
all_words [] words = tt
all_words (part ∷ parts) words = (part_words 0 part words.0, all_words parts words.1)

-- ---- from operations to their pieces

take_words : (n : ℕ) (words : List ℕ) → AreWords words → AreWords (take n words)
take_words zero words are = tt
take_words (suc n) [] are = tt
take_words (suc n) (word ∷ words) are = (are.0, take_words n words are.1)

drop_words : (n : ℕ) (words : List ℕ) → AreWords words → AreWords (drop n words)
drop_words zero words are = are
drop_words (suc n) [] are = tt
drop_words (suc n) (word ∷ words) are = drop_words n words are.1

-- a part that begins within an operation
part_has_words : (op : Op) (offset count : ℕ) → CanBeCut op → HasWords op → offset < op_count op
    → HasWords (part_of op offset count)
part_has_words (Read base all) offset count can words within = (omega (arith, can.1), tt)
part_has_words (ReadPort base all) offset count can words within = words
part_has_words (Write base all) offset count can words within =
    (omega (arith, can.1), take_words count (drop offset all) (drop_words offset all words.1))
part_has_words (WritePort base all) offset count can words within =
    (words.0, take_words count (drop offset all) (drop_words offset all words.1))
part_has_words (RmwBits base and_term or_term) offset count can words within = words
part_has_words (RmwSum base addend) offset count can words within = words

begins_within : (all limit k : ℕ) → 1 ≤ limit → k < div_ceil all limit → k * limit < all
begins_within all limit k some within =
    let bounds = div_ceil_times all limit some in
    let below : (k + 1) * limit ≤ div_ceil all limit * limit =
    mul-le (k + 1) limit (div_ceil all limit) limit (omega arith) (omega arith) in
    omega (arith, bounds.1)

pieces_have_words : (payload : ℕ) (op : Op) (from count : ℕ) → 16 ≤ payload → CanBeCut op → HasWords op
    → from + count ≤ piece_count payload op
    → AllByRecursion HasWords (map (piece payload op) (range_with_len from count))
pieces_have_words payload op from zero low can words few = tt
pieces_have_words payload op from (suc count) low can words few = (
  part_has_words op (piece_offset payload op from) (piece_length payload op from) can words
      (begins_within (op_count op) (piece_limit payload op) from (piece_limit-some payload op low) (omega arith)),
  pieces_have_words payload op (from + 1) count low can words (omega arith),
)

pub cut_has_words : (payload : ℕ) (ops : List Op) → 16 ≤ payload → AllByRecursion CanBeCut ops
    → AllByRecursion HasWords ops → AllByRecursion HasWords (flat_map (cut_pieces payload) ops)
cut_has_words payload [] low can words = tt
cut_has_words payload (op ∷ ops) low can words =
    AllByRecursion-append HasWords (cut_pieces payload op) (flat_map (cut_pieces payload) ops)
    (pieces_have_words payload op 0 (piece_count payload op) low can.0 words.0 (omega arith))
    (cut_has_words payload ops low can.1 words.1)
