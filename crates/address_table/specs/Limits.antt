-- The limits of register tables. Profile.
use Rattle.std.specs.Prelude.{ℕ, ◌≤◌}

-- the most bytes of an id
abbrev pub longest_id : ℕ
longest_id = 64

-- the most words of a block or a port
abbrev pub most_words : ℕ
most_words = 4194304

-- the most registers that one node may name by indexes
abbrev pub most_indexes : ℕ
most_indexes = 65536

-- The formats of register tables: in the second a node may have `count` and `stride`.
abbrev pub IsFormat : ℕ → Type 0
IsFormat format = (1 ≤ format) × (format ≤ 2)
