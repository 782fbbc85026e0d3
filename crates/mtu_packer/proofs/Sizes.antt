-- A packing has few bodies, and they are short.
use Rattle.std.proofs.Common.{ℕ, ◌+◌, ◌*◌, ◌/◌, ◌<◌, ◌≤◌, ◌^◌, List, [], ◌∷◌, length, map, sum_by, ap, arith}
use Rattle.std.proofs.Common.{length-append}
use Rattle.std.specs.Int.{div_ceil}
use Rattle.std.specs.List.{AllByRecursion, flat_map}
use Rattle.std.proofs.lemmas.List.{length-map}
use Rattle.std.proofs.lemmas.List.Sums.{sum_by-append, sum_by-cons}
use Rattle.std.proofs.lemmas.Nat.{div-add-mod'}
use Rattle.std.proofs.Math.Nat.{mul-le-mul_left}
use Rattle.ipb_base.specs.Word.{AreWords}
use Rattle.ipb_base.proofs.WordLemmas.{AreWords-append}
use Rattle.transaction_codec.specs.declared.request.Op.{Op}
use Rattle.transaction_codec.specs.declared.request.Op.TheVariants.{Read, ReadPort, Write, WritePort, RmwBits, RmwSum}
use Rattle.transaction_codec.specs.declared.request.Request.{Request}
use Rattle.transaction_codec.specs.Request.{AreRequests, IsRequest, op_count, op_kind, op_words, request_words}
use Rattle.transaction_codec.specs.Request.{requests_words}
use Rattle.transaction_codec.specs.Answer.{reply_room, values_done}
use Rattle.transaction_codec.proofs.Longest.{longest_unique, reply_room_longest}
use Rattle.mtu_packer.specs.Cutting.{cut_pieces, piece_count, piece_limit}
use Rattle.mtu_packer.specs.Packing.{AreReadable, body_words, longest_reply, requests_from}
use Rattle.mtu_packer.specs.Packed.{Contents, IsPacked, words_with_answer}
use Rattle.mtu_packer.proofs.Asking.{all_counts}
use Rattle.mtu_packer.proofs.Parts.{longest_reply_is_longest}
use Rattle.mtu_packer.proofs.Pieces.{length-cut, pieces-le}

-- ---- pieces

full_pieces : (n limit : ℕ) → 13 ≤ limit → 13 * div_ceil n limit ≤ n + 12
full_pieces n limit full = omega (arith, div-add-mod' n limit, mul-le-mul_left (n / limit) full)

-- all pieces of an operation but the last have 13 words at least
few_in_one : (payload : ℕ) (op : Op) → 16 ≤ payload → 13 * piece_count payload op ≤ op_count op + 12
few_in_one payload (Read base count) low = full_pieces count (piece_limit payload (Read base count)) (omega arith)
few_in_one payload (ReadPort base count) low =
    full_pieces count (piece_limit payload (ReadPort base count)) (omega arith)
few_in_one payload (Write base words) low =
    full_pieces (length words) (piece_limit payload (Write base words)) (omega arith)
few_in_one payload (WritePort base words) low =
    full_pieces (length words) (piece_limit payload (WritePort base words)) (omega arith)
few_in_one payload (RmwBits base and_term or_term) low = omega arith
few_in_one payload (RmwSum base addend) low = omega arith

few_pieces : (payload : ℕ) (ops : List Op) → 16 ≤ payload
    → 13 * length (flat_map (cut_pieces payload) ops) ≤ sum_by op_count ops + 12 * length ops
few_pieces payload [] low = omega arith
few_pieces payload (op ∷ ops) low =
    omega (
      arith,
      few_pieces payload ops low,
      few_in_one payload op low,
      length-cut payload op,
      length-append (cut_pieces payload op) (flat_map (cut_pieces payload) ops),
      sum_by-cons op_count op ops,
    )

-- ---- bodies

-- each has a piece
no_more_bodies : (parts : List (List Op)) → AllByRecursion (λ part. 0 < length part) parts
    → length parts ≤ length (flat_map (λ part. part) parts)
no_more_bodies [] filled = omega arith
no_more_bodies (part ∷ parts) filled =
    omega (arith, filled.0, no_more_bodies parts filled.1, length-append part (flat_map (λ part. part) parts))

pub few_bodies : (ops : List Op) (payload : ℕ) (contents : Contents) → 16 ≤ payload → IsPacked ops payload contents
    → 13 * length contents.bodies ≤ sum_by op_count ops + 12 * length ops
few_bodies ops payload contents low is =
    omega (
      arith,
      ap length is.bodies,
      length-map is.parts body_words,
      no_more_bodies is.parts is.packing.filled,
      ap length is.packing.whole,
      few_pieces payload ops low,
    )

-- ---- words

small_type : (op : Op) → op_kind op < 2 ^ 4
small_type (Read base count) = omega arith
small_type (ReadPort base count) = omega arith
small_type (Write base words) = omega arith
small_type (WritePort base words) = omega arith
small_type (RmwBits base and_term or_term) = omega arith
small_type (RmwSum base addend) = omega arith

one_request : (r : Request) → IsRequest r → AreWords (request_words r)
one_request r is = (omega (arith, is.tid, is.count, small_type r.op), is.words)

pub requests_are_words : (rs : List Request) → AreRequests rs → AreWords (requests_words rs)
requests_are_words [] is = tt
requests_are_words (r ∷ rs) is =
    AreWords-append (request_words r) (requests_words rs) (one_request r is.0) (requests_are_words rs is.1)

-- two headers, an address and two terms at most, beside what is read or written
one_short : (op : Op) → length (op_words op) + 1 + 1 + values_done op ≤ 5 + op_count op
one_short (Read base count) = omega arith
one_short (ReadPort base count) = omega arith
one_short (Write base words) = omega arith
one_short (WritePort base words) = omega arith
one_short (RmwBits base and_term or_term) = omega arith
one_short (RmwSum base addend) = omega arith

part_short : (tid : ℕ) (part : List Op)
    → length (requests_words (requests_from tid part)) + longest_reply part ≤ 5 * length part + sum_by op_count part
part_short tid [] = omega arith
part_short tid (op ∷ part) =
    omega (
      arith,
      part_short (tid + 1) part,
      one_short op,
      length-append (request_words (record { tid = tid; op = op })) (requests_words (requests_from (tid + 1) part)),
      sum_by-cons (λ o. 1 + values_done o) op part,
      sum_by-cons op_count op part,
    )

one_body : (part : List Op) → AreRequests (requests_from 0 part)
    → words_with_answer (body_words part) ≤ 5 * length part + sum_by op_count part
one_body part ranges =
    let same = longest_unique (body_words part) (reply_room (body_words part)) (longest_reply part)
    (reply_room_longest (body_words part) (requests_are_words (requests_from 0 part) ranges))
    (longest_reply_is_longest 0 part ranges) in
    omega (arith, same, part_short 0 part)

bodies_short : (parts : List (List Op)) → AreReadable parts → sum_by words_with_answer (map body_words parts)
    ≤ 5 * length (flat_map (λ part. part) parts) + sum_by op_count (flat_map (λ part. part) parts)
bodies_short [] readable = omega arith
bodies_short (part ∷ parts) readable =
    omega (
      arith,
      bodies_short parts readable.1,
      one_body part readable.0,
      length-append part (flat_map (λ part. part) parts),
      sum_by-append op_count part (flat_map (λ part. part) parts),
      sum_by-cons words_with_answer (body_words part) (map body_words parts),
    )

pub few_words : (ops : List Op) (payload : ℕ) (contents : Contents) → 16 ≤ payload → IsPacked ops payload contents
    → sum_by words_with_answer contents.bodies ≤ 6 * sum_by op_count ops
few_words ops payload contents low is =
    omega (
      arith,
      ap (sum_by words_with_answer) is.bodies,
      bodies_short is.parts is.readable,
      ap length is.packing.whole,
      ap (sum_by op_count) is.packing.whole,
      pieces-le payload ops low,
      all_counts payload ops low,
    )
