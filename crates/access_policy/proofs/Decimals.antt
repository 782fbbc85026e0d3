-- Decimal digits without leading zeros and the numbers that they write.
use Rattle.std.proofs.Common.{◌≡◌, ℕ, ◌+◌, ◌-◌, ◌*◌, ◌^◌, ◌<◌, ◌≤◌, ◌==◌, List, [], ◌∷◌, length, get_or, codes, nat_eq, nat_lt}
use Rattle.std.proofs.Common.{Bool, true, false, not, ◌&&◌, ◌||◌, cond, Option, Some, None, refl, ap, sym, arith, ◌∙◌, decimal}
use Rattle.std.specs.Int.{IsInRange}
use Rattle.std.specs.List.{list_all, starts_with}
use Rattle.std.proofs.lemmas.Bool.Decides.{nat_tests}
use Rattle.std.proofs.lemmas.Fmt.{decimal-digits_value, decimal_nonempty, digits_decimal, digits_value-decimal, first_decimal}
use Rattle.std.proofs.lemmas.Fmt.{decimal_digit, length-decimal-le}
use Rattle.std.proofs.Common.{◌⊎◌, inl, inr, zero, suc}
use Rattle.std.proofs.lemmas.Str.Parse.{IsDigitsTest, IsNumeralModel, WeighsDigits, numerals_by_weight}
use Rattle.ipb_base.specs.Digits.{are_digits, digit_value, digits_in_base, digits_number, is_between, number_in_text}
use Rattle.ipb_base.specs.Digits.{value_of_digits, word}
use Rattle.script_lang.specs.Texts.{checked_value, is_decimal, is_digit}
use Rattle.access_policy.specs.Names.{index_in}
use Rattle.access_policy.specs.declared.limits.TheConstants.{MAX_INDEX}

abbrev pub AreDecimal : List ℕ → Type 0
AreDecimal ds = list_all is_digit ds ≡ true

both_of : (a b : Bool) → (a && b) ≡ true → (a ≡ true) × (b ≡ true)
both_of true b h = (refl, h)
both_of false b h = cc

in_range : (c : ℕ) → is_digit c ≡ true → IsInRange 48 57 c
in_range c h = (grind (arith, nat_tests), grind (arith, nat_tests))

from_range : (c : ℕ) → IsInRange 48 57 c → is_digit c ≡ true
from_range c h = let low = h.0 in let high = h.1 in grind (arith, nat_tests)

tells : IsDigitsTest AreDecimal
tells = record {
  empty = refl;
  parts = λ c cs h. let p = both_of (is_digit c) (list_all is_digit cs) h in (in_range c p.0, p.1);
  more = λ c cs is are. rw (from_range c is) are;
}

digit_is : (c : ℕ) → IsInRange 48 57 c → digit_value c ≡ c - 48
unfolding digit_value
digit_is c h = let low = h.0 in let high = h.1 in grind (arith, nat_tests)

weighs : WeighsDigits (value_of_digits 10)
weighs = record {
  empty = refl;
  more = λ c cs is. ap (λ d. d * 10 ^ length cs + value_of_digits 10 cs) (digit_is c is);
}

pub own : IsNumeralModel AreDecimal (value_of_digits 10)
own = numerals_by_weight AreDecimal tells (value_of_digits 10) weighs

digit_below : (c : ℕ) → is_digit c ≡ true → nat_lt (digit_value c) 10 ≡ true
digit_below c h =
    let is = in_range c h in
    let low = is.0 in
    let high = is.1 in
    let value = digit_is c is in
    grind (arith, nat_tests)

in_base : (ds : List ℕ) → AreDecimal ds → are_digits 10 ds ≡ true
in_base [] h = refl
in_base (c ∷ cs) h =
    let p = both_of (is_digit c) (list_all is_digit cs) h in
    rw (digit_below c p.0) (in_base cs p.1)

-- ---- from a text to its number, and back

no_hex : (a b : ℕ) (rest : List ℕ) → is_digit b ≡ true → starts_with nat_eq (a ∷ b ∷ rest) (codes "0x") ≡ false
no_hex a b rest h =
    let is = in_range b h in
    let low = is.0 in
    let high = is.1 in
    grind (arith, nat_tests)

one_no_hex : (a : ℕ) → starts_with nat_eq (a ∷ []) (codes "0x") ≡ false
one_no_hex a = grind (arith, nat_tests)

-- digits are read in base ten
plain : (text : List ℕ) → AreDecimal text → number_in_text text ≡ digits_number 10 10 text
plain [] h = refl
plain (a ∷ []) h = rw (one_no_hex a) refl
plain (a ∷ b ∷ rest) h =
    let p = both_of (is_digit a) (list_all is_digit (b ∷ rest)) h in
    let q = both_of (is_digit b) (list_all is_digit rest) p.1 in
    rw (no_hex a b rest q.0) refl

digits_of : (text : List ℕ) → is_decimal text ≡ true → AreDecimal text
digits_of [] h = cc
digits_of (c ∷ cs) h =
    (both_of (is_digit c && list_all is_digit cs) (not (c == 48) || (length cs == 0)) h).0

leads : (c : ℕ) (cs : List ℕ) → is_decimal (c ∷ cs) ≡ true → c ≡ 48 → length (c ∷ cs) ≡ 1
leads c cs h lead =
    let p = both_of (is_digit c && list_all is_digit cs) (not (c == 48) || (length cs == 0)) h in
    let q = p.1 in
    grind (arith, nat_tests)

-- a number that is there is the one that was tested
checked_is : (test : ℕ → Bool) (found : Option ℕ) (n : ℕ) → checked_value test found ≡ Some n → found ≡ Some n
checked_is test None n h = cc
checked_is test (Some m) n h = by_test (test m) h
  where
    by_test : (b : Bool) → cond b (Some m) None ≡ Some n → Some m ≡ Some n
    by_test true e = e
    by_test false e = cc

when : (b : Bool) (found : Option ℕ) (n : ℕ) → cond b found None ≡ Some n → (b ≡ true) × (found ≡ Some n)
when true found n h = (refl, h)
when false found n h = cc

word_is : (m n : ℕ) → word m ≡ Some n → (m ≡ n) × (m < 2 ^ 32)
word_is m n h = (grind (arith, nat_tests), grind (arith, nat_tests))

-- the digits of an index are those that `decimal` writes
pub index_back : (text : List ℕ) (n : ℕ) → index_in text ≡ Some n → decimal n ≡ text
index_back [] n h = cc
index_back (c ∷ cs) n h =
    let text = c ∷ cs in
    let tested = when (is_decimal text) (checked_value (is_between 0 MAX_INDEX) (number_in_text text)) n h in
    let digits = digits_of text tested.0 in
    let number : digits_number 10 10 text ≡ Some n =
    sym (plain text digits) ∙ checked_is (is_between 0 MAX_INDEX) (number_in_text text) n tested.1 in
    let sized = when (is_between 1 10 (length text)) (digits_in_base 10 text) n number in
    let based = when (are_digits 10 text) (word (value_of_digits 10 text)) n sized.1 in
    let value = word_is (value_of_digits 10 text) n based.1 in
    ap decimal (sym value.0)
    ∙ decimal-digits_value own text digits (omega arith) (leads c cs tested.0) (omega (arith, value.1))

-- ---- from a number to its text, and back

same : (m n : ℕ) → (m == n) ≡ true → m ≡ n
same m n h = grind (arith, nat_tests)

cases_zero : (n : ℕ) → (n ≡ 0) ⊎ (0 < n)
cases_zero zero = inl refl
cases_zero (suc n) = inr (omega arith)

begins : (ds : List ℕ) → AreDecimal ds → 0 < length ds → (get_or ds 0 0 ≡ 48 → length ds ≡ 1) → is_decimal ds ≡ true
begins [] h some lead = absurd (omega arith)
begins (c ∷ cs) h some lead = rw h (by_lead (c == 48) refl)
  where
    by_lead : (b : Bool) → (c == 48) ≡ b → (not (c == 48) || (length cs == 0)) ≡ true
    by_lead true e = let one = lead (same c 48 e) in rw e (grind (arith, nat_tests))
    by_lead false e = rw e refl

lead_of : (n : ℕ) → n < 2 ^ 64 → get_or (decimal n) 0 0 ≡ 48 → length (decimal n) ≡ 1
lead_of n fits h = by_zero (cases_zero n)
  where
    by_zero : (n ≡ 0) ⊎ (0 < n) → length (decimal n) ≡ 1
    by_zero (inl none) = ap (λ m. length (decimal m)) none ∙ ap length (decimal_digit 0 (omega arith))
    by_zero (inr some) = absurd (omega (arith, first_decimal n some fits, h))

word_small : (n : ℕ) → n < 2 ^ 32 → word n ≡ Some n
word_small n h = grind (arith, nat_tests)

between : (low high n : ℕ) → low ≤ n → n ≤ high → is_between low high n ≡ true
between low high n h k = grind (arith, nat_tests)

-- the index that `decimal` writes is read back
pub index_found : (n : ℕ) → n ≤ MAX_INDEX → index_in (decimal n) ≡ Some n
index_found n small =
    let fits : n < 2 ^ 64 = omega (arith, small) in
    let digits : AreDecimal (decimal n) = digits_decimal own n fits in
    let some : 0 < length (decimal n) = decimal_nonempty n fits in
    let few : length (decimal n) ≤ 10 = length-decimal-le 10 n (omega arith) (omega (arith, small)) fits in
    let number : number_in_text (decimal n) ≡ Some n =
    plain (decimal n) digits
    ∙ rw (
      between 1 10 (length (decimal n)) (omega arith) few,
      in_base (decimal n) digits,
      digits_value-decimal own n fits,
    ) (word_small n (omega (arith, small))) in
    rw (begins (decimal n) digits some (lead_of n fits), number, between 0 MAX_INDEX n (omega arith) small) refl

-- an index that was read is one that a node can have
pub index_small : (text : List ℕ) (n : ℕ) → index_in text ≡ Some n → n ≤ MAX_INDEX
index_small text n h = by_number (number_in_text text) (when (is_decimal text) (checked_value (is_between 0 MAX_INDEX) (number_in_text text)) n h).1
  where
    within : (m : ℕ) (b : Bool) → is_between 0 MAX_INDEX m ≡ b → cond b (Some m) None ≡ Some n → n ≤ MAX_INDEX
    within m true is e = grind (arith, nat_tests)
    within m false is e = cc

    by_number : (found : Option ℕ) → checked_value (is_between 0 MAX_INDEX) found ≡ Some n → n ≤ MAX_INDEX
    by_number None e = cc
    by_number (Some m) e = within m (is_between 0 MAX_INDEX m) refl e
