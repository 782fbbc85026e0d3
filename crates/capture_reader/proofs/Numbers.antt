-- Decimal numbers at the front of a text.
use Rattle.std.proofs.Common.{◌≡◌, ℕ, ◌+◌, ◌-◌, ◌*◌, ◌^◌, ◌<◌, ◌≤◌, List, [], ◌∷◌, ◌++◌, length, Option, Some, None}
use Rattle.std.proofs.Common.{refl, sym, ap, ◌∙◌, Bool, true, false, cond, arith}
use Rattle.std.specs.Fmt.{decimal}
use Rattle.std.specs.Int.{IsInRange}
use Rattle.std.specs.List.{AllByRecursion}
use Rattle.std.proofs.lemmas.Fmt.{digits_decimal, digits_value-decimal}
use Rattle.std.proofs.lemmas.Str.Parse.{IsNumeralModel, numerals_by_fold}
use Rattle.std.proofs.lemmas.Bool.Decides.{nat_tests}
use Rattle.ipb_base.specs.Digits.{is_between, word}
use Rattle.ipb_base.specs.Fronts.{Front, ◌>>=◌}
use Rattle.capture_reader.specs.Reading.{digit_at, with_digit, number_from, number_at}
use Rattle.ipb_base.proofs.Fronts.{Shortens, parts_of, rest_of}

short_by : (b : Bool) (byte d : ℕ) (text rest : List ℕ) → cond {A = Front ℕ} b (Some (byte - 48, text)) None ≡ Some (d, rest)
    → length rest < length (byte ∷ text)
short_by true byte d text rest e = let same : text ≡ rest = ap rest_of e in rw (sym same) (omega arith)
short_by false byte d text rest e = absurd cc

pub digits_shorten : Shortens digit_at
unfolding digit_at
digits_shorten [] rest d e = absurd cc
digits_shorten (byte ∷ text) rest d e = short_by (is_between 48 57 byte) byte d text rest e

step_by : (b : Bool) (value byte d : ℕ) (text rest : List ℕ) → cond {A = Front ℕ} b (Some (byte - 48, text)) None ≡ Some (d, rest)
    → cond {A = Front ℕ} b (with_digit value (byte - 48) >>= (λ more. number_from more text)) (Some (value, byte ∷ text))
    ≡ (with_digit value d >>= (λ more. number_from more rest))
step_by true value byte d text rest e =
    let parts = parts_of (byte - 48) d text rest e in rw (parts.0, parts.1) refl
step_by false value byte d text rest e = absurd cc

pub number_step : (value d : ℕ) (text rest : List ℕ) → digit_at text ≡ Some (d, rest)
    → number_from value text ≡ (with_digit value d >>= (λ more. number_from more rest))
unfolding digit_at
number_step value d [] rest e = absurd cc
number_step value d (byte ∷ text) rest e = step_by (is_between 48 57 byte) value byte d text rest e

stop_by : (b : Bool) (value byte : ℕ) (text : List ℕ) → ◌≡◌ {A = Front ℕ} (cond {A = Front ℕ} b (Some (byte - 48, text)) None) None
    → cond {A = Front ℕ} b (with_digit value (byte - 48) >>= (λ more. number_from more text)) (Some (value, byte ∷ text))
    ≡ Some (value, byte ∷ text)
stop_by true value byte text e = absurd cc
stop_by false value byte text e = refl

pub number_stop : (value : ℕ) (text : List ℕ) → digit_at text ≡ None → number_from value text ≡ Some (value, text)
unfolding digit_at
number_stop value [] e = refl
number_stop value (byte ∷ text) e = stop_by (is_between 48 57 byte) value byte text e

-- ---- what `decimal` writes is read again

abbrev AreDigits : List ℕ → Type 0
AreDigits digits = AllByRecursion (IsInRange 48 57) digits

abbrev read_on : ℕ → List ℕ → ℕ
read_on value [] = value
read_on value (byte ∷ digits) = read_on (10 * value + (byte - 48)) digits

own : IsNumeralModel AreDigits (read_on 0)
own = numerals_by_fold AreDigits (record { empty = tt; parts = λ c cs all. all; more = λ c cs here all. (here, all) })
    read_on
    (record { empty = λ n. refl; more = λ n c cs here. ap (λ m. read_on (m + (c - 48)) cs) (omega arith) })

grows : (value : ℕ) (digits : List ℕ) → value ≤ read_on value digits
grows value [] = omega arith
grows value (byte ∷ digits) = omega (arith, grows (10 * value + (byte - 48)) digits)

between : (low high n : ℕ) → low ≤ n → n ≤ high → is_between low high n ≡ true
between low high n l h = grind (arith, nat_tests)

below : (low high n : ℕ) → n < low → is_between low high n ≡ false
below low high n l = grind (arith, nat_tests)

fits : (n : ℕ) → n < 2 ^ 32 → word n ≡ Some n
fits n small = grind (arith, nat_tests)

again_from : (value : ℕ) (digits : List ℕ) (byte : ℕ) (rest : List ℕ) → AreDigits digits → read_on value digits < 2 ^ 32
    → byte < 48 → number_from value (digits ++ byte ∷ rest) ≡ Some (read_on value digits, byte ∷ rest)
again_from value [] byte rest all small stop = rw (below 48 57 byte stop) refl
again_from value (digit ∷ digits) byte rest all small stop =
    let is = between 48 57 digit all.0.0 all.0.1 in
    let few : 10 * value + (digit - 48) < 2 ^ 32 = omega (arith, grows (10 * value + (digit - 48)) digits) in
    rw (is, fits (10 * value + (digit - 48)) few)
    (again_from (10 * value + (digit - 48)) digits byte rest all.1 small stop)

pub number_again : (n byte : ℕ) (rest : List ℕ) → n < 2 ^ 32 → byte < 48
    → number_at (decimal n ++ byte ∷ rest) ≡ Some (n, byte ∷ rest)
number_again n byte rest small stop =
    let long : n < 2 ^ 64 = omega arith in
    let value = digits_value-decimal own n long in
    again_from 0 (decimal n) byte rest (digits_decimal own n long) (rw value small) stop
    ∙ ap (λ v. Some (v, byte ∷ rest)) value

pub next_digit : (value d more : ℕ) (text rest : List ℕ) → digit_at text ≡ Some (d, rest) → with_digit value d ≡ Some more
    → number_from value text ≡ number_from more rest
next_digit value d more text rest e is =
    number_step value d text rest e ∙ ap (λ (r : Option ℕ). r >>= (λ n. number_from n rest)) is

pub past_digits : (value d : ℕ) (text rest : List ℕ) → digit_at text ≡ Some (d, rest) → with_digit value d ≡ None
    → number_from value text ≡ None
past_digits value d text rest e is =
    number_step value d text rest e ∙ ap (λ (r : Option ℕ). r >>= (λ n. number_from n rest)) is
