-- Fields and the values that fit them.
use Rattle.std.proofs.Common.{◌≡◌, ℕ, ◌+◌, ◌-◌, ◌*◌, ◌/◌, ◌%◌, ◌^◌, ◌<◌, bit_and, sym, ◌∙◌, ap, arith}
use Rattle.std.specs.Int.Bits.{and_self, and_zero_r}
use Rattle.std.proofs.lemmas.Nat.{shl-shr, shr_split, and_mod, and_assoc, and_le_r, shl_whole}
use Rattle.masked_fields.specs.Field.{shift, field, shifted_value, FitsMask, put_field}
use Rattle.masked_fields.proofs.Shifts.{IsShift-shift, shift-below}
use Rattle.masked_fields.proofs.Masks.{joined_inside, outside-add-inside}

-- the field moved up again is what was cut out of the word
pub shifted-field : (word mask : ℕ) → 0 < mask → mask < 2 ^ 32 → shifted_value mask (field word mask) ≡ bit_and word mask
shifted-field word mask some fits =
    let cut = bit_and word mask in
    let none : cut % 2 ^ shift mask ≡ 0 = and_mod word mask (shift mask) ∙ ap (bit_and (word % 2 ^ shift mask))
    ((IsShift-shift mask some fits).divides) ∙ and_zero_r (word % 2 ^ shift mask) in
    let whole : cut / 2 ^ shift mask * 2 ^ shift mask + cut % 2 ^ shift mask ≡ cut = shr_split cut (shift mask) in
    omega arith

pub FitsMask-field : (word mask : ℕ) → 0 < mask → mask < 2 ^ 32 → FitsMask mask (field word mask)
FitsMask-field word mask some fits =
    let same = shifted-field word mask some fits in
    ap (λ a. bit_and a mask) same ∙ and_assoc mask word mask ∙ ap (bit_and word) (and_self mask) ∙ sym same

-- a value that fits is the field of the value moved up
pub field-shifted : (mask value : ℕ) → FitsMask mask value → field (shifted_value mask value) mask ≡ value
field-shifted mask value inside = ap (λ a. a / 2 ^ shift mask) inside ∙ shl-shr value (shift mask)

pub field-put_field : (word mask value : ℕ) → mask < 2 ^ 32 → FitsMask mask value → field (put_field word mask value)
    mask ≡ value
field-put_field word mask value fits inside =
    ap (λ a. a / 2 ^ shift mask) (joined_inside mask word (shifted_value mask value) fits inside)
    ∙ shl-shr value (shift mask)

pub put_field-field : (word mask : ℕ) → 0 < mask → mask < 2 ^ 32 → word < 2 ^ 32 → put_field word mask
    (field word mask) ≡ word
put_field-field word mask some fits small = ap (λ a. bit_and word (2 ^ 32 - 1 - mask) + a)
    (shifted-field word mask some fits) ∙ outside-add-inside mask word fits small

pub shifted_word : (mask value : ℕ) → mask < 2 ^ 32 → FitsMask mask value → shifted_value mask value < 2 ^ 32
shifted_word mask value fits inside = omega (arith, and_le_r (shifted_value mask value) mask, inside)

-- no bit is lost where a value is moved up in 64 bits
pub shifted_whole : (mask value x s : ℕ) → 0 < mask → mask < 2 ^ 32 → value < 2 ^ 32 → x ≡ value → s ≡ shift mask
    → x * 2 ^ s % 2 ^ 64 ≡ shifted_value mask value
shifted_whole mask value x s some fits small same_value same_shift =
    ap (λ a. a * 2 ^ s % 2 ^ 64) same_value ∙ ap (λ a. value * 2 ^ a % 2 ^ 64) same_shift
    ∙ shl_whole value 32 (shift mask) 64 small (let low : shift mask < 32 = shift-below mask some fits in omega arith)
