-- Numbers at the front of a text.
use Rattle.std.proofs.Common.{◌≡◌, ℕ, ◌+◌, ◌*◌, ◌^◌, ◌<◌, ◌≤◌, nat_lt, List, [], ◌∷◌, ◌++◌, length, Option, Some, None}
use Rattle.std.proofs.Common.{refl, sym, ap, ◌∙◌, Bool, true, false, cond, arith}
use Rattle.std.specs.Char.{digit_value}
use Rattle.std.specs.Str.Parse.{AllDigits, digits_value, digits_value_after}
use Rattle.std.proofs.lemmas.Bool.Decides.{nat_tests}
use Rattle.std.proofs.Math.Nat.{mul-le-mul_left}
use Rattle.ipb_base.specs.Fronts.{Front, ◌>>=◌}
use Rattle.transcript_reader.specs.Reading.{digit_at, with_digit, number_from, number_at}
use Rattle.ipb_base.proofs.Fronts.{Shortens, bound, rest_of, parts_of}

short_by : (b : Bool) (byte value d : ℕ) (text rest : List ℕ)
    → cond {A = Front ℕ} b (Some (value, text)) None ≡ Some (d, rest) → length rest < length (byte ∷ text)
short_by true byte value d text rest e = let same : text ≡ rest = ap rest_of e in rw (sym same) (omega arith)
short_by false byte value d text rest e = absurd cc

pub digits_shorten : (base : ℕ) → Shortens (digit_at base)
unfolding digit_at
digits_shorten base [] rest d e = absurd cc
digits_shorten base (byte ∷ text) rest d e =
    short_by (nat_lt (digit_value byte) base) byte (digit_value byte) d text rest e

step_by : (base : ℕ) (b : Bool) (value byte digit d : ℕ) (text rest : List ℕ)
    → cond {A = Front ℕ} b (Some (digit, text)) None ≡ Some (d, rest)
    → cond {A = Front ℕ} b (with_digit base value digit >>= (λ more. number_from base more text))
    (Some (value, byte ∷ text))
    ≡ (with_digit base value d >>= (λ more. number_from base more rest))
step_by base true value byte digit d text rest e =
    let parts = parts_of digit d text rest e in rw (parts.0, parts.1) refl
step_by base false value byte digit d text rest e = absurd cc

number_step : (base value d : ℕ) (text rest : List ℕ) → digit_at base text ≡ Some (d, rest)
    → number_from base value text ≡ (with_digit base value d >>= (λ more. number_from base more rest))
unfolding digit_at
number_step base value d [] rest e = absurd cc
number_step base value d (byte ∷ text) rest e =
    step_by base (nat_lt (digit_value byte) base) value byte (digit_value byte) d text rest e

stop_by : (base : ℕ) (b : Bool) (value byte digit : ℕ) (text : List ℕ)
    → ◌≡◌ {A = Front ℕ} (cond {A = Front ℕ} b (Some (digit, text)) None) None
    → cond {A = Front ℕ} b (with_digit base value digit >>= (λ more. number_from base more text))
    (Some (value, byte ∷ text))
    ≡ Some (value, byte ∷ text)
stop_by base true value byte digit text e = absurd cc
stop_by base false value byte digit text e = refl

pub number_stop : (base value : ℕ) (text : List ℕ) → digit_at base text ≡ None
    → number_from base value text ≡ Some (value, text)
unfolding digit_at
number_stop base value [] e = refl
number_stop base value (byte ∷ text) e =
    stop_by base (nat_lt (digit_value byte) base) value byte (digit_value byte) text e

pub next_digit : (base value d more : ℕ) (text rest : List ℕ) → digit_at base text ≡ Some (d, rest)
    → with_digit base value d ≡ Some more → number_from base value text ≡ number_from base more rest
next_digit base value d more text rest e is =
    number_step base value d text rest e ∙ ap (λ (r : Option ℕ). r >>= (λ n. number_from base n rest)) is

pub past_digits : (base value d : ℕ) (text rest : List ℕ) → digit_at base text ≡ Some (d, rest)
    → with_digit base value d ≡ None → number_from base value text ≡ None
past_digits base value d text rest e is =
    number_step base value d text rest e ∙ ap (λ (r : Option ℕ). r >>= (λ n. number_from base n rest)) is

no_longer_by : (base : ℕ) (b : Bool) (value byte digit n : ℕ) (text rest : List ℕ)
    → ((more : ℕ) → number_from base more text ≡ Some (n, rest) → length rest ≤ length text)
    → cond {A = Front ℕ} b (with_digit base value digit >>= (λ more. number_from base more text))
    (Some (value, byte ∷ text)) ≡ Some (n, rest) → length rest ≤ length (byte ∷ text)
no_longer_by base true value byte digit n text rest later e =
    let more = bound (with_digit base value digit) (λ more. number_from base more text) (n, rest) e in
    omega (arith, later more.0 more.2)
no_longer_by base false value byte digit n text rest later e =
    let same : byte ∷ text ≡ rest = ap rest_of e in rw (sym same) (omega arith)

-- what is behind a number is no longer than the text
pub no_longer : (base value n : ℕ) (text rest : List ℕ) → number_from base value text ≡ Some (n, rest)
    → length rest ≤ length text
no_longer base value n [] rest e = let same : [] ≡ rest = ap rest_of e in rw (sym same) (omega arith)
no_longer base value n (byte ∷ text) rest e =
    no_longer_by base (nat_lt (digit_value byte) base) value byte (digit_value byte) n text rest
    (λ more. no_longer base more n text rest) e

-- ---- what is written in digits is read again

-- no digit of a base stands at the front
abbrev pub NoDigit : ℕ → List ℕ → Type 0
NoDigit base text = digit_at base text ≡ None

scaled : (value base digit : ℕ) → 1 ≤ base → value ≤ value * base + digit
scaled value base digit some = omega (arith, mul-le-mul_left value some)

grows : (base value : ℕ) (digits : List ℕ) → 1 ≤ base → value ≤ digits_value_after base value digits
grows base value [] some = omega arith
grows base value (byte ∷ digits) some =
    omega (arith, scaled value base (digit_value byte) some, grows base (value * base + digit_value byte) digits some)

passes : (m n : ℕ) → m < n → nat_lt m n ≡ true
passes m n low = grind (arith, nat_tests)

again_from : (base value : ℕ) (digits rest : List ℕ) → 1 ≤ base → AllDigits base digits
    → digits_value_after base value digits < 2 ^ 64 → NoDigit base rest
    → number_from base value (digits ++ rest) ≡ Some (digits_value_after base value digits, rest)
again_from base value [] rest some all fits stop = number_stop base value rest stop
again_from base value (digit ∷ digits) rest some all fits stop =
    let next = value * base + digit_value digit in
    let few : next < 2 ^ 64 = omega (arith, grows base next digits some) in
    rw (passes (digit_value digit) base all.0, passes next (2 ^ 64) few)
    (again_from base next digits rest some all.1 fits stop)

pub number_again : (base n : ℕ) (digits rest : List ℕ) → 1 ≤ base → n < 2 ^ 64 → AllDigits base digits
    → digits_value base digits ≡ n → NoDigit base rest → number_at base (digits ++ rest) ≡ Some (n, rest)
number_again base n digits rest some fits all value stop =
    let few : digits_value_after base 0 digits < 2 ^ 64 = rw value fits in
    again_from base 0 digits rest some all few stop ∙ ap (λ (v : ℕ). Some (v, rest)) value
