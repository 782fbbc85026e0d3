-- The header word of a transaction. IPbus 2.0, transaction header.
use Rattle.std.specs.Prelude.{ℕ, ◌+◌, ◌*◌, ◌/◌, ◌%◌, ◌^◌, Bool, ◌==◌, ◌||◌}
use Rattle.ipb_base.specs.declared.version.TheConstants.{VERSION}
use Rattle.transaction_codec.specs.declared.transaction_type.TheConstants.{WRITE, WRITE_PORT, RMW_BITS, RMW_SUM}

-- the version in bits 31-28, the transaction identifier in 27-16, the words in 15-8, the type in 7-4, the info code in
-- 3-0
abbrev pub header : ℕ → ℕ → ℕ → ℕ → ℕ
header tid count kind code = VERSION * 2 ^ 28 + tid * 2 ^ 16 + count * 2 ^ 8 + kind * 2 ^ 4 + code

-- the fields of a word
abbrev pub version_of : ℕ → ℕ
version_of word = word / 2 ^ 28

abbrev pub tid_of : ℕ → ℕ
tid_of word = word / 2 ^ 16 % 2 ^ 12

abbrev pub count_of : ℕ → ℕ
count_of word = word / 2 ^ 8 % 2 ^ 8

abbrev pub kind_of : ℕ → ℕ
kind_of word = word / 2 ^ 4 % 2 ^ 4

abbrev pub code_of : ℕ → ℕ
code_of word = word % 2 ^ 4

-- which types write and which read, modify and write; the others of the six read
abbrev pub is_write : ℕ → Bool
is_write kind = kind == WRITE || kind == WRITE_PORT

abbrev pub is_rmw : ℕ → Bool
is_rmw kind = kind == RMW_BITS || kind == RMW_SUM
