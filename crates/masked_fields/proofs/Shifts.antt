-- The lowest one of a number stands above bit 0 by the greatest power of two that divides the number.
use Rattle.std.proofs.Common.{◌≡◌, ℕ, ◌/◌, ◌%◌, ◌^◌, ◌<◌, sym, ◌∙◌, ap, arith, inl, inr}
use Rattle.std.specs.Int.{w32, bit_at}
use Rattle.std.proofs.lemmas.Nat.{shr_split, pow_pos, mod_below}
use Rattle.std.proofs.lemmas.Nat.Bits.{bit_at-trailing_zeros, bit_at_cat_low, bit_at_above, bit_at-zero, same_from_bits}
use Rattle.std.proofs.Math.Nat.{le_antisymm}
use Rattle.std.proofs.lemmas.Bool.{cases_lt}
use Rattle.masked_fields.specs.Field.{IsShift, shift}

-- the low bits of a remainder are those of the number
low_bits : (n k i : ℕ) → i < k → bit_at (n % 2 ^ k) i ≡ bit_at n i
low_bits n k i below = sym (bit_at_cat_low (n / 2 ^ k) k (n % 2 ^ k) i below) ∙ ap (λ m. bit_at m i) (shr_split n k)

no_low_bits : (n z : ℕ) → ((i : ℕ) → i < z → bit_at n i ≡ 0) → n % 2 ^ z ≡ 0
no_low_bits n z none = same_from_bits (n % 2 ^ z) 0 (λ i. elim (cases_lt i z) [
  | inl below ↦ low_bits n z i below
      ∙ none i below ∙ sym (bit_at-zero i)
  | inr above ↦ bit_at_above (n % 2 ^ z) z i (mod_below n (2 ^ z) (pow_pos z))
      above ∙ sym (bit_at-zero i)
])

divided_bit : (n k i : ℕ) → n % 2 ^ k ≡ 0 → i < k → bit_at n i ≡ 0
divided_bit n k i none below = sym (low_bits n k i below) ∙ ap (λ m. bit_at m i) none ∙ bit_at-zero i

pub IsShift-shift : (mask : ℕ) → 0 < mask → mask < 2 ^ 32 → IsShift mask (shift mask)
IsShift-shift mask some word =
    let found = bit_at-trailing_zeros w32 mask some word in
    record {
      divides = no_low_bits mask (shift mask) found.2;
      greatest = λ k none. elim (cases_lt (shift mask) k) [
        | inl below ↦ absurd (let zero_bit : bit_at mask (shift mask) ≡ 0 =
            divided_bit mask k (shift mask) none below in let one_bit : bit_at mask (shift mask) ≡ 1 = found.1 in
            omega arith)
        | inr above ↦ above
      ];
    }

pub shift-below : (mask : ℕ) → 0 < mask → mask < 2 ^ 32 → shift mask < 32
shift-below mask some word = (bit_at-trailing_zeros w32 mask some word).0

pub same_shift : (mask z : ℕ) → 0 < mask → mask < 2 ^ 32 → IsShift mask z → z ≡ shift mask
same_shift mask z some word is = let own = IsShift-shift mask some word in
    le_antisymm (own.greatest z is.divides) (is.greatest (shift mask) own.divides)
