-- Masked fields of a register (uHAL): what a word has under a mask, as a number whose bit 0 is at the mask's lowest
-- bit. Words and masks have 32 bits, and a mask is not 0.
use Rattle.std.specs.Prelude.{◌≡◌, ℕ, ◌+◌, ◌*◌, ◌/◌, ◌%◌, ◌^◌, ◌≤◌, bit_and}
use Rattle.std.specs.Int.{w32, bit_not, trailing_zeros}

-- z is the number of zero bits below the lowest one of the mask
pub record IsShift (mask z : ℕ) : Type 0 where
  pub divides : mask % 2 ^ z ≡ 0
  pub greatest : (k : ℕ) → mask % 2 ^ k ≡ 0 → k ≤ z

-- that number: how many zeros the mask has below its lowest one
abbrev pub shift : ℕ → ℕ
shift mask = trailing_zeros w32 mask

-- the field of a word under a mask
abbrev pub field : ℕ → ℕ → ℕ
field word mask = bit_and word mask / 2 ^ shift mask

-- the value at the place of the field, not cut to 32 bits
abbrev pub shifted_value : ℕ → ℕ → ℕ
shifted_value mask value = value * 2 ^ shift mask

-- the value has no bit outside the mask
abbrev pub FitsMask : ℕ → ℕ → Type 0
FitsMask mask value = bit_and (shifted_value mask value) mask ≡ shifted_value mask value

-- the word with the value put into the field, where it fits the mask
abbrev pub put_field : ℕ → ℕ → ℕ → ℕ
put_field word mask value = bit_and word (bit_not w32 mask) + shifted_value mask value
