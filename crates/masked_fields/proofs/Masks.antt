-- A mask m of 32 bits, its complement, and numbers that have no bit outside it.
use Rattle.std.proofs.Common.{◌≡◌, ℕ, ◌+◌, ◌^◌, ◌<◌, bit_and, bit_or, sym, ◌∙◌, ap, arith}
use Rattle.std.specs.Int.{w32, bit_not}
use Rattle.std.specs.Int.Bits.{and_self, and_zero_r}
use Rattle.std.proofs.lemmas.Nat.{and-not, and_assoc, and_comm, and_le_l, and_le_r, and_or_apart, or_comm, or_disjoint}
use Rattle.std.proofs.lemmas.Nat.{or_lt}

-- no bit is in a mask and outside it
pub outside-and : (m : ℕ) → m < 2 ^ 32 → bit_and (bit_not w32 m) m ≡ 0
outside-and m word = omega (arith, and-not 32 m m word word, and_self m)

-- the bits outside a mask and those inside are all bits
pub outside-add-inside : (m n : ℕ) → m < 2 ^ 32 → n < 2 ^ 32 → bit_and n (bit_not w32 m) + bit_and n m ≡ n
outside-add-inside m n mask word = ap (λ a. a + bit_and n m) (and_comm n (bit_not w32 m))
    ∙ ap (λ a. bit_and (bit_not w32 m) n + a) (and_comm n m) ∙ and-not 32 m n mask word

-- what is cut to the bits outside a mask has none inside
pub cut_outside : (m n : ℕ) → m < 2 ^ 32 → bit_and (bit_and n (bit_not w32 m)) m ≡ 0
cut_outside m n mask = and_assoc m n (bit_not w32 m) ∙ ap (bit_and n) (outside-and m mask) ∙ and_zero_r n

-- what has no bit outside a mask has none in common with the rest
pub apart : (m n b : ℕ) → m < 2 ^ 32 → bit_and b m ≡ b → bit_and (bit_and n (bit_not w32 m)) b ≡ 0
apart m n b mask inside =
    ap (bit_and (bit_and n (bit_not w32 m))) (sym inside ∙ and_comm b m)
    ∙ sym (and_assoc b (bit_and n (bit_not w32 m)) m)
    ∙ ap (λ a. bit_and a b) (cut_outside m n mask) ∙ and_comm 0 b ∙ and_zero_r b

pub no_bit_outside : (m b : ℕ) → m < 2 ^ 32 → bit_and b m ≡ b → bit_and b (bit_not w32 m) ≡ 0
no_bit_outside m b mask inside =
    ap (λ a. bit_and a (bit_not w32 m)) (sym inside) ∙ and_assoc (bit_not w32 m) b m
    ∙ ap (bit_and b) (and_comm m (bit_not w32 m) ∙ outside-and m mask) ∙ and_zero_r b

-- the bits of a word outside a mask, with others put inside
pub joined : (m n b : ℕ) → m < 2 ^ 32 → bit_and b m ≡ b → bit_or (bit_and n (bit_not w32 m)) b
    ≡ bit_and n (bit_not w32 m) + b
joined m n b mask inside = or_disjoint (bit_and n (bit_not w32 m)) b (apart m n b mask inside)

pub joined_inside : (m n b : ℕ) → m < 2 ^ 32 → bit_and b m ≡ b → bit_and (bit_and n (bit_not w32 m) + b) m ≡ b
joined_inside m n b mask inside =
    let rest = bit_and n (bit_not w32 m) in
    ap (λ a. bit_and a m) (sym (joined m n b mask inside) ∙ or_comm rest b)
    ∙ and_or_apart m b rest (cut_outside m n mask) ∙ inside

pub joined_outside : (m n b : ℕ) → m < 2 ^ 32 → bit_and b m ≡ b → bit_and (bit_and n (bit_not w32 m) + b)
    (bit_not w32 m) ≡ bit_and n (bit_not w32 m)
joined_outside m n b mask inside =
    let rest = bit_and n (bit_not w32 m) in
    ap (λ a. bit_and a (bit_not w32 m)) (sym (joined m n b mask inside))
    ∙ and_or_apart (bit_not w32 m) rest b (no_bit_outside m b mask inside)
    ∙ and_assoc (bit_not w32 m) n (bit_not w32 m) ∙ ap (bit_and n) (and_self (bit_not w32 m))

pub joined_word : (m n b : ℕ) → m < 2 ^ 32 → n < 2 ^ 32 → bit_and b m ≡ b → bit_and n (bit_not w32 m) + b < 2 ^ 32
joined_word m n b mask word inside =
    let rest = bit_and n (bit_not w32 m) in
    let small : rest < 2 ^ 32 = omega (arith, and_le_l n (bit_not w32 m)) in
    let low : b < 2 ^ 32 = omega (arith, and_le_r b m, inside) in
    let whole = or_lt 32 rest b small low in
    omega (arith, joined m n b mask inside, whole)
