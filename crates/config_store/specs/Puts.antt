-- Values that are put into fields of a word, one after another (uHAL).
use Rattle.std.specs.Prelude.{◌≡◌, ℕ, ◌<◌, ◌^◌, List, [], ◌∷◌, bit_and}
use Rattle.masked_fields.specs.Field.{FitsMask, put_field}

-- the word after values are put under masks
abbrev pub put_all : ℕ → List (ℕ × ℕ) → ℕ
put_all word [] = word
put_all word (put ∷ puts) = put_all (put_field word put.0 put.1) puts

-- some bit of a word is in the mask, and the value has none outside it
pub record CanBePut (put : ℕ × ℕ) : Type 0 where
  pub some : 0 < put.0
  pub word : put.0 < 2 ^ 32
  pub fits : FitsMask put.0 put.1

-- each can be put, and under a mask that shares no bit with this one
abbrev pub AreApartFrom : ℕ → List (ℕ × ℕ) → Type 0
AreApartFrom mask [] = Unit {0}
AreApartFrom mask (put ∷ puts) = (CanBePut put × (bit_and put.0 mask ≡ 0)) × AreApartFrom mask puts

abbrev pub CanAllBePut : List (ℕ × ℕ) → Type 0
CanAllBePut [] = Unit {0}
CanAllBePut (put ∷ puts) = CanBePut put × CanAllBePut puts
