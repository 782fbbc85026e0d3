-- How the code looks at bytes. The private functions speak of it and no public clause does.
use Rattle.std.specs.Prelude.{ℕ, ◌*◌, List, drop}
use Rattle.std.specs.Int.{w32, from_be_bytes}

-- a big-endian word, counted from 0
abbrev pub word_at : List ℕ → ℕ → ℕ
word_at bytes place = from_be_bytes w32 (drop (4 * place) bytes)
