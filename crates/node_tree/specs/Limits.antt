-- The limits of an index. Profile.
use Rattle.std.specs.Prelude.{ℕ}

-- the most names that a walk comes to, and so the most registers of an index
abbrev pub most_nodes : ℕ
most_nodes = 65536

-- the most ids in the name of a register
abbrev pub most_ids : ℕ
most_ids = 16
