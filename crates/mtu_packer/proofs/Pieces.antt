-- What is known of each piece.
use Rattle.std.proofs.Common.{◌≡◌, ℕ, ◌+◌, ◌/◌, zero, suc, ◌≤◌, [], ◌∷◌, length, map, drop, arith, length-take, List}
use Rattle.std.proofs.Common.{sum_by, length-append}
use Rattle.std.specs.Int.{div_ceil}
use Rattle.std.specs.List.{AllByRecursion, flat_map, range_with_len}
use Rattle.std.proofs.lemmas.List.Sums.{sum_by-append}
use Rattle.std.proofs.lemmas.Nat.{div-add-mod'}
use Rattle.std.proofs.Math.Nat.{mul-le-mul_left}
use Rattle.std.proofs.lemmas.List.FromFn.{length-map-range_with_len}
use Rattle.transaction_codec.specs.declared.request.Op.{Op}
use Rattle.transaction_codec.specs.declared.request.Op.TheVariants.{Read, ReadPort, Write, WritePort, RmwBits, RmwSum}
use Rattle.transaction_codec.specs.Request.{op_count}
use Rattle.mtu_packer.specs.Cutting.{cut_pieces, piece, piece_count, piece_length, piece_limit, piece_offset, part_of}
use Rattle.mtu_packer.specs.Progress.{FitsAlone}

pub length-cut : (payload : ℕ) (op : Op) → length (cut_pieces payload op) ≡ piece_count payload op
length-cut payload op = length-map-range_with_len (piece payload op) 0 (piece_count payload op)

-- a part of so few words fits an empty body
part_fits : (payload : ℕ) (op : Op) (offset count : ℕ) → 16 ≤ payload → count ≤ piece_limit payload op
    → FitsAlone payload (part_of op offset count)
part_fits payload (Read base all) offset count low few = record {
  count = omega arith;
  request = omega arith;
  reply =
      omega arith;
}
part_fits payload (ReadPort base all) offset count low few = record {
  count = omega arith;
  request =
      omega arith;
  reply = omega arith;
}
part_fits payload (Write base words) offset count low few =
    let short = length-take count (drop offset words) in
    record { count = omega (arith, short); request = omega (arith, short); reply = omega arith }
part_fits payload (WritePort base words) offset count low few =
    let short = length-take count (drop offset words) in
    record { count = omega (arith, short); request = omega (arith, short); reply = omega arith }
part_fits payload (RmwBits base and_term or_term) offset count low few = record {
  count = omega arith;
  request =
      omega arith;
  reply = omega arith;
}
part_fits payload (RmwSum base addend) offset count low few = record {
  count = omega arith;
  request =
      omega arith;
  reply = omega arith;
}

pub piece_fits : (payload : ℕ) (op : Op) (k : ℕ) → 16 ≤ payload → FitsAlone payload (piece payload op k)
piece_fits payload op k low = part_fits payload op (piece_offset payload op k) (piece_length payload op k) low
    (omega arith)

pieces_fit : (payload : ℕ) (op : Op) (from count : ℕ) → 16 ≤ payload → AllByRecursion (FitsAlone payload)
    (map (piece payload op) (range_with_len from count))
pieces_fit payload op from zero low = tt
pieces_fit payload op from (suc count) low = (
  piece_fits payload op from low,
  pieces_fit payload op (from + 1) count
      low,
)

pub cut_fits : (payload : ℕ) (op : Op) → 16 ≤ payload → AllByRecursion (FitsAlone payload) (cut_pieces payload op)
cut_fits payload op low = pieces_fit payload op 0 (piece_count payload op) low

div_ceil-le : (n k : ℕ) → 1 ≤ k → div_ceil n k ≤ n
div_ceil-le n k some = omega (arith, div-add-mod' n k, mul-le-mul_left (n / k) some)

pub piece_limit-some : (payload : ℕ) (op : Op) → 16 ≤ payload → 1 ≤ piece_limit payload op
piece_limit-some payload (Read base all) low = omega arith
piece_limit-some payload (ReadPort base all) low = omega arith
piece_limit-some payload (Write base words) low = omega arith
piece_limit-some payload (WritePort base words) low = omega arith
piece_limit-some payload (RmwBits base and_term or_term) low = omega arith
piece_limit-some payload (RmwSum base addend) low = omega arith

-- no operation has more pieces than words
piece_count-le : (payload : ℕ) (op : Op) → 16 ≤ payload → piece_count payload op ≤ op_count op
piece_count-le payload op low = div_ceil-le (op_count op) (piece_limit payload op) (piece_limit-some payload op low)

pub pieces-le : (payload : ℕ) (ops : List Op) → 16 ≤ payload → length (flat_map (cut_pieces payload) ops) ≤ sum_by op_count ops
pieces-le payload [] low = omega arith
pieces-le payload (op ∷ ops) low =
    omega (
      arith,
      pieces-le payload ops low,
      piece_count-le payload op low,
      length-cut payload op,
      length-append
          (cut_pieces payload op) (flat_map (cut_pieces payload) ops),
      sum_by-append op_count (op ∷ []) ops,
    )
