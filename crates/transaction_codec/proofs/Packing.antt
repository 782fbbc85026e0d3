-- A header packed by shifts and `|` is the sum of its fields.
use Rattle.std.proofs.Common.{◌≡◌, ℕ, ◌+◌, ◌*◌, ◌^◌, ◌%◌, ◌<◌, bit_or, refl, arith}
use Rattle.std.proofs.lemmas.Nat.{or_shifted}
use Rattle.transaction_codec.specs.Header.{header}

-- `|` below the last bit of a number adds
or_below : (high k low number : ℕ) → number ≡ high * 2 ^ k → low < 2 ^ k → bit_or number low ≡ number + low
or_below high k low number is lt = rw is (or_shifted high k low lt)

pub packed : (tid count kind code : ℕ) → tid < 2 ^ 12 → count < 2 ^ 8 → kind < 2 ^ 4 → code < 2 ^ 4
    → bit_or (bit_or (bit_or (bit_or 536870912 (tid * 65536 % 4294967296)) (count * 256 % 4294967296))
    (kind * 16 % 4294967296)) code ≡ header tid count kind code
packed tid count kind code tid_lt count_lt kind_lt code_lt =
    let tid_is : tid * 65536 % 4294967296 ≡ tid * 65536 = omega arith in
    let count_is : count * 256 % 4294967296 ≡ count * 256 = omega arith in
    let kind_is : kind * 16 % 4294967296 ≡ kind * 16 = omega arith in
    let with_tid : bit_or 536870912 (tid * 65536) ≡ 536870912 + tid * 65536 =
    or_below 2 28 (tid * 65536) 536870912 refl (omega arith) in
    let with_count : bit_or (536870912 + tid * 65536) (count * 256) ≡ 536870912 + tid * 65536 + count * 256 =
    or_below (8192 + tid) 16 (count * 256) (536870912 + tid * 65536) (omega arith) (omega arith) in
    let with_kind : bit_or (536870912 + tid * 65536 + count * 256) (kind * 16) ≡ 536870912 + tid * 65536 + count * 256
    + kind * 16 =
    or_below (2097152 + tid * 256 + count) 8 (kind * 16) (536870912 + tid * 65536 + count * 256) (omega arith)
    (omega arith) in
    let with_code : bit_or (536870912 + tid * 65536 + count * 256 + kind * 16) code ≡ 536870912 + tid * 65536 + count
    * 256 + kind * 16 + code =
    or_below (33554432 + tid * 4096 + count * 16 + kind) 4 code (536870912 + tid * 65536 + count * 256 + kind * 16)
    (omega arith) code_lt in
    rw (tid_is, count_is, kind_is, with_tid, with_count, with_kind, with_code) refl
