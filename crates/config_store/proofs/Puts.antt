-- Values that are put under masks.
use Rattle.std.proofs.Common.{◌≡◌, ℕ, ◌<◌, ◌^◌, List, [], ◌∷◌, ◌++◌, bit_and, bit_or, refl, sym, ap}
use Rattle.std.proofs.Common.{◌∙◌, arith}
use Rattle.std.specs.Int.{bit_at, bit_not, w32}
use Rattle.std.proofs.lemmas.Nat.Bits.{bit_at_and, bit_at_or, bit_at_not, bit_at-lt, bit_at-zero}
use Rattle.std.proofs.lemmas.Nat.Bits.{same_from_bits_below}
use Rattle.std.proofs.lemmas.Nat.{and_le_r}
use Rattle.masked_fields.specs.Field.{field, FitsMask, put_field, shifted_value}
use Rattle.masked_fields.proofs.FieldValues.{field-put_field}
use Rattle.masked_fields.proofs.Masks.{joined, joined_word}
use Rattle.config_store.specs.Puts.{AreApartFrom, CanAllBePut, CanBePut, put_all}

-- the bits under a mask stay where a value is put under one that is apart from it
bits_stay : (word mask value other : ℕ) → mask < 2 ^ 32 → other < 2 ^ 32 → FitsMask mask value → bit_and mask other ≡ 0
    → bit_and (put_field word mask value) other ≡ bit_and word other
bits_stay word mask value other small low fits apart =
    let b = shifted_value mask value in
    ap (λ n. bit_and n other) (sym (joined mask word b small fits))
    ∙ same_from_bits_below 32 _ _ (omega (arith, and_le_r (bit_or (bit_and word (bit_not w32 mask)) b) other))
    (omega (arith, and_le_r word other)) (λ i within.
    let rest = bit_and word (bit_not w32 mask) in
    let a = bit_at_and (bit_or rest b) other i in
    let d = bit_at_or rest b i in
    let e = bit_at_and word (bit_not w32 mask) i in
    let f = bit_at_not w32 mask i small within in
    let g = bit_at_and word other i in
    let h = bit_at_and mask other i in
    let j : bit_at (bit_and mask other) i ≡ 0 = ap (λ n. bit_at n i) apart ∙ bit_at-zero i in
    let k = bit_at_and b mask i in
    let l : bit_at (bit_and b mask) i ≡ bit_at b i = ap (λ n. bit_at n i) fits in
    let m = bit_at-lt mask i in
    let n = bit_at-lt other i in
    let o = bit_at-lt word i in
    let p = bit_at-lt b i in
    omega arith)

pub field_stays : (word mask value other : ℕ) → mask < 2 ^ 32 → other < 2 ^ 32 → FitsMask mask value
    → bit_and mask other ≡ 0 → field (put_field word mask value) other ≡ field word other
field_stays word mask value other small low fits apart = rw (bits_stay word mask value other small low fits apart) refl

put_word : (word : ℕ) (put : ℕ × ℕ) → word < 2 ^ 32 → CanBePut put → put_field word put.0 put.1 < 2 ^ 32
put_word word put small can = joined_word put.0 word (shifted_value put.0 put.1) can.word small can.fits

pub others_stay : (word mask : ℕ) (puts : List (ℕ × ℕ)) → word < 2 ^ 32 → mask < 2 ^ 32 → AreApartFrom mask puts
    → field (put_all word puts) mask ≡ field word mask
others_stay word mask [] small low apart = refl
others_stay word mask (put ∷ puts) small low apart =
    let can = apart.0.0 in
    others_stay (put_field word put.0 put.1) mask puts (put_word word put small can) low apart.1
    ∙ field_stays word put.0 put.1 mask can.word low can.fits apart.0.1

pub own_shows : (word : ℕ) (before after : List (ℕ × ℕ)) (put : ℕ × ℕ) → word < 2 ^ 32 → CanAllBePut before → CanBePut put
    → AreApartFrom put.0 after → field (put_all word (before ++ put ∷ after)) put.0 ≡ put.1
own_shows word [] after put small all can apart =
    others_stay (put_field word put.0 put.1) put.0 after (put_word word put small can) can.word apart
    ∙ field-put_field word put.0 put.1 can.word can.fits
own_shows word (first ∷ before) after put small all can apart =
    own_shows (put_field word first.0 first.1) before after put (put_word word first small all.0) all.1 can apart
