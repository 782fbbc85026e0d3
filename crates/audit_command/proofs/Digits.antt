-- Numbers of few decimal digits.
use Rattle.std.proofs.Common.{◌≡◌, ◌∙◌, ◌≤◌, ◌<◌, ℕ, Bool, true, false, if◌then◌else◌, List, ◌++◌, length, drop, take}
use Rattle.std.proofs.Common.{codes, nat_eq, Option, Some, None, refl, sym, ap, subst, take-append-drop, arith}
use Rattle.std.proofs.lemmas.Bool.Decides.{nat_tests}
use Rattle.std.specs.Cmp.Lexicographic.{same_text}
use Rattle.std.specs.List.{starts_with}
use Rattle.ipb_base.specs.Digits.{are_digits, digit_value, digits_in_base, digits_number, is_between, number_in_text}
use Rattle.ipb_base.specs.Digits.{value_of_digits, word}
use Rattle.audit_command.specs.Numbers.{length_digits}

none_either : (b : Bool) (number : Option ℕ) → number ≡ None → (if b then number else None) ≡ None
none_either true number none = none
none_either false number none = refl

no_digits : (text : List ℕ) → are_digits 10 text ≡ false → digits_number 10 length_digits text ≡ None
no_digits text none =
    none_either (is_between 1 length_digits (length text)) _
    (ap (λ b. if b then word (value_of_digits 10 text) else None) none)

x_second : (rest : List ℕ) → digits_number 10 length_digits (codes "0x" ++ rest) ≡ None
unfolding digit_value
x_second rest = no_digits (codes "0x" ++ rest) refl

pub hexadecimal : (text : List ℕ) → starts_with nat_eq text (codes "0x") ≡ true
    → digits_number 10 length_digits text ≡ None
hexadecimal text is =
    subst (λ t. digits_number 10 length_digits t ≡ None)
    (ap (λ front. front ++ drop 2 text) (same_text (codes "0x") (take 2 text) (sym is)) ∙ take-append-drop 2 text)
    (x_second (drop 2 text))

-- too many digits
between : (most n : ℕ) → most < n → is_between 1 most n ≡ false
between most n more = grind (arith, nat_tests)

pub long : (text : List ℕ) → length_digits < length text → digits_number 10 length_digits text ≡ None
long text more = ap (λ b. if b then digits_in_base 10 text else None) (between length_digits (length text) more)

-- few digits are at most ten
few : (n : ℕ) → n ≤ 8 → is_between 1 8 n ≡ is_between 1 10 n
few n short = grind (arith, nat_tests)

pub short : (text : List ℕ) → length text ≤ length_digits → starts_with nat_eq text (codes "0x") ≡ false
    → digits_number 10 length_digits text ≡ number_in_text text
short text fits plain =
    ap (λ b. if b then digits_in_base 10 text else None) (few (length text) fits)
    ∙ sym (ap (λ b. if b then digits_number 16 8 (drop 2 text) else digits_number 10 10 text) plain)

-- what has a value has digits alone
both : (a b : Bool) (value : Option ℕ) (n : ℕ) → (if a then (if b then value else None) else None) ≡ Some n → b ≡ true
both true true value n is = refl
both true false value n is = absurd cc
both false b value n is = absurd cc

pub has_digits : (text : List ℕ) (n : ℕ) → digits_number 10 length_digits text ≡ Some n → are_digits 10 text ≡ true
has_digits text n is = both (is_between 1 length_digits (length text)) (are_digits 10 text) _ n is
