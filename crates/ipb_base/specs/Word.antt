-- The 32-bit words of which packets and transactions are made, and their bytes on the wire (IPbus 2.0, packets).
use Rattle.std.specs.Prelude.{ℕ, ◌<◌, ◌^◌, List}
use Rattle.std.specs.List.{AllByRecursion, flat_map}
use Rattle.std.specs.Int.{w32, to_be_bytes}

-- a number of 32 bits
abbrev pub IsWord : ℕ → Type 0
IsWord n = n < 2 ^ 32

abbrev pub AreWords : List ℕ → Type 0
AreWords words = AllByRecursion IsWord words

-- the four bytes of a word, the most significant one first
abbrev pub word_bytes : ℕ → List ℕ
word_bytes word = to_be_bytes w32 word

-- the bytes of a list of words, each big-endian
abbrev pub big_endian : List ℕ → List ℕ
big_endian words = flat_map word_bytes words
