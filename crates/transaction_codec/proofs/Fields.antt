-- The fields of a header word are those it was made of, and a word is the header of its fields.
use Rattle.std.proofs.Common.{◌≡◌, ℕ, ◌^◌, ◌<◌, arith}
use Rattle.transaction_codec.specs.Header.{header, version_of, tid_of, count_of, kind_of, code_of}

pub header-fields : (word : ℕ) → version_of word ≡ 2 → word ≡ header (tid_of word) (count_of word) (kind_of word)
    (code_of word)
header-fields word version = omega arith

-- the fields of a header
pub record HasFields (word tid count kind code : ℕ) : Type 0 where
  pub version_is : version_of word ≡ 2
  pub tid_is : tid_of word ≡ tid
  pub count_is : count_of word ≡ count
  pub kind_is : kind_of word ≡ kind
  pub code_is : code_of word ≡ code

pub fields-header : (tid count kind code : ℕ) → tid < 2 ^ 12 → count < 2 ^ 8 → kind < 2 ^ 4 → code < 2 ^ 4
    → HasFields (header tid count kind code) tid count kind code
fields-header tid count kind code tid_lt count_lt kind_lt code_lt = record {
  version_is = omega arith;
  tid_is = omega arith;
  count_is = omega arith;
  kind_is = omega arith;
  code_is = omega arith;
}
