-- Words that are no number, since not each of their bytes is a decimal digit.
use Rattle.std.proofs.Common.{◌≡◌, ◌∙◌, ℕ, Bool, true, false, if◌then◌else◌, List, ◌∷◌, ◌++◌, length, drop, take, codes}
use Rattle.std.proofs.Common.{nat_eq, Option, None, refl, sym, ap, subst, take-append-drop}
use Rattle.std.specs.Cmp.Lexicographic.{same_text}
use Rattle.std.specs.List.{starts_with}
use Rattle.std.specs.Prelude.{option_and_then}
use Rattle.ipb_base.specs.Digits.{are_digits, digit_value, digits_number, is_between, value_of_digits, word}
use Rattle.command_words.specs.Commands.{number_between, within}

none_either : (b : Bool) (number : Option ℕ) → number ≡ None → (if b then number else None) ≡ None
none_either true number none = none
none_either false number none = refl

no_digits : (text : List ℕ) → are_digits 10 text ≡ false → digits_number 10 10 text ≡ None
no_digits text none =
    none_either (is_between 1 10 (length text)) _ (ap (λ b. if b then word (value_of_digits 10 text) else None) none)

no_number : (least most : ℕ) (text : List ℕ) → are_digits 10 text ≡ false → number_between least most text ≡ None
no_number least most text none = ap (option_and_then (within least most)) (no_digits text none)

pub hyphen : (least most : ℕ) (rest : List ℕ) → number_between least most (45 ∷ rest) ≡ None
unfolding digit_value
hyphen least most rest = no_number least most (45 ∷ rest) refl

x_second : (least most : ℕ) (rest : List ℕ) → number_between least most (48 ∷ 120 ∷ rest) ≡ None
unfolding digit_value
x_second least most rest = no_number least most (48 ∷ 120 ∷ rest) refl

pub hexadecimal : (least most : ℕ) (text : List ℕ) → starts_with nat_eq text (codes "0x") ≡ true
    → number_between least most text ≡ None
hexadecimal least most text is =
    subst (λ t. number_between least most t ≡ None)
    (ap (λ front. front ++ drop 2 text) (same_text (codes "0x") (take 2 text) (sym is)) ∙ take-append-drop 2 text)
    (x_second least most (drop 2 text))
