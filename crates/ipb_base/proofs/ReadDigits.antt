-- Reading digits from the front: the value so far, and what is still to come.
use Rattle.std.proofs.Common.{◌≡◌, ℕ, ◌+◌, ◌*◌, ◌^◌, ◌<◌, ◌≤◌, List, ◌∷◌, length, drop, get_or, Bool, true, false, ◌&&◌}
use Rattle.std.proofs.Common.{nat_lt, Option, Some, None, cond, refl, ap, ◌∙◌, arith}
use Rattle.std.proofs.Math.Nat.{one-le-pow, le-mul_of_pos_right}
use Rattle.std.proofs.lemmas.Bool.Decides.{nat_tests}
use Rattle.std.proofs.lemmas.List.{at_drop_more, at_drop_all}
use native.Mathlib.Numerals.{unary_clauses}
use Rattle.ipb_base.specs.Digits.{are_digits, digit_value, value_of_digits, word}

-- the number that more digits of the base make of the value so far
abbrev pub continued : ℕ → ℕ → List ℕ → ℕ
continued base value rest = value * base ^ length rest + value_of_digits base rest

abbrev pub number_after : ℕ → ℕ → List ℕ → Option ℕ
number_after base value rest = cond (are_digits base rest) (word (continued base value rest)) None

moved : (p base value d v : ℕ) → value * (p * base) + (d * p + v) ≡ (value * base + d) * p + v
moved p base value d v = omega arith

continued-cons : (base value byte : ℕ) (rest : List ℕ)
    → continued base value (byte ∷ rest) ≡ continued base (value * base + digit_value byte) rest
continued-cons base value byte rest =
    simp unary_clauses (moved (base ^ length rest) base value (digit_value byte) (value_of_digits base rest))

continued-large : (base value : ℕ) (rest : List ℕ) → 1 ≤ base → value ≤ continued base value rest
continued-large base value rest some =
    omega (arith, le-mul_of_pos_right {m = base ^ length rest} value (one-le-pow (length rest) base some))

word-large : (n : ℕ) → 2 ^ 32 ≤ n → word n ≡ None
word-large n large = grind (arith, nat_tests)

word-small : (n : ℕ) → n < 2 ^ 32 → word n ≡ Some n
word-small n small = grind (arith, nat_tests)

cond-none : (b : Bool) (o : Option ℕ) → o ≡ None → cond b o None ≡ None
cond-none true o none = none
cond-none false o none = refl

with_digit : (digit base : ℕ) (b : Bool) (o : Option ℕ) → digit < base
    → cond (nat_lt digit base && b) o None ≡ cond b o None
with_digit digit base b o small = grind (arith, nat_tests)

number_after-cons : (base value byte : ℕ) (rest : List ℕ) → digit_value byte < base
    → number_after base value (byte ∷ rest) ≡ number_after base (value * base + digit_value byte) rest
number_after-cons base value byte rest digit =
    with_digit (digit_value byte) base (are_digits base rest) (word (continued base value (byte ∷ rest))) digit
    ∙ ap (λ n. cond (are_digits base rest) (word n) None) (continued-cons base value byte rest)

number_after-large : (base value : ℕ) (rest : List ℕ) → 1 ≤ base → 2 ^ 32 ≤ value → number_after base value rest ≡ None
number_after-large base value rest some large =
    let past : value ≤ continued base value rest = continued-large base value rest some in
    cond-none (are_digits base rest) (word (continued base value rest))
    (word-large (continued base value rest) (omega arith))

at_first : (base value i : ℕ) (text : List ℕ) → i < length text
    → number_after base value (drop i text) ≡ number_after base value (get_or text i 0 ∷ drop (i + 1) text)
at_first base value i text more = at_drop_more (number_after base value) text i 0 more

-- after one more digit
pub next_digit : (base value i : ℕ) (text : List ℕ) → i < length text → digit_value (get_or text i 0) < base
    → number_after base value (drop i text)
    ≡ number_after base (value * base + digit_value (get_or text i 0)) (drop (i + 1) text)
next_digit base value i text more digit =
    at_first base value i text more ∙ number_after-cons base value (get_or text i 0) (drop (i + 1) text) digit

-- a value past 32 bits
pub past_word : (base value i : ℕ) (text : List ℕ) → i < length text → 1 ≤ base → digit_value (get_or text i 0) < base
    → 2 ^ 32 ≤ value * base + digit_value (get_or text i 0) → number_after base value (drop i text) ≡ None
past_word base value i text more some digit large =
    next_digit base value i text more digit
    ∙ number_after-large base (value * base + digit_value (get_or text i 0)) (drop (i + 1) text) some large

none_left : (base value : ℕ) → value * base ^ 0 + 0 ≡ value
none_left base value = simp unary_clauses (omega arith)

-- no digit is left
pub last_digit : (base value i : ℕ) (text : List ℕ) → length text ≤ i → value < 2 ^ 32
    → number_after base value (drop i text) ≡ Some value
last_digit base value i text done small =
    at_drop_all (number_after base value) text i done ∙ ap word (none_left base value) ∙ word-small value small
