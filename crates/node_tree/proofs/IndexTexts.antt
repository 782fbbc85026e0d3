-- Decimal numbers at the front of texts that go on with no digit are the same where the texts are.
use Rattle.std.proofs.Common.{◌≡◌, ℕ, ◌<◌, ◌^◌, nat_lt, not, Bool, true, List, [], ◌∷◌, ◌++◌, refl, sym, ap, subst}
use Rattle.std.proofs.Common.{◌∙◌, inl, inr, arith}
use Rattle.std.specs.Char.{digit_value}
use Rattle.std.specs.Fmt.{decimal}
use Rattle.std.specs.List.{list_all}
use Rattle.std.specs.Str.Parse.{AllDigits}
use Rattle.std.proofs.lemmas.Bool.{cases_Bool}
use Rattle.std.proofs.lemmas.Bool.Decides.{nat_tests}
use Rattle.std.proofs.lemmas.Fmt.{decimal_is_IsNumeral, decimal_injective}

is_digit : ℕ → Bool
is_digit c = nat_lt (digit_value c) 10

pub stops : List ℕ → Bool
stops [] = true
stops (x ∷ xs) = not (is_digit x)

all_parts : (x : ℕ) (xs : List ℕ) → list_all is_digit (x ∷ xs) ≡ true
    → (is_digit x ≡ true) × (list_all is_digit xs ≡ true)
all_parts x xs all =
    elim (cases_Bool (is_digit x)) [
      | inl here ↦ (here, rw here at all)
      | inr fails ↦ (let e = rw fails at all in cc)
    ]

goes_on : (y : ℕ) (ys rest : List ℕ) → is_digit y ≡ true → stops rest ≡ true → rest ≡ y ∷ ys → ⊥
unfolding stops
goes_on y ys rest passes stop is =
    let at : not (is_digit y) ≡ true = subst (λ l. stops l ≡ true) is stop in
    let e = rw passes at at in cc

cut : (xs ys rest more : List ℕ) → list_all is_digit xs ≡ true → list_all is_digit ys ≡ true → stops rest ≡ true
    → stops more ≡ true → xs ++ rest ≡ ys ++ more → xs ≡ ys
cut [] [] rest more a b s t e = refl
cut [] (y ∷ ys) rest more a b s t e = absurd (goes_on y (ys ++ more) rest (all_parts y ys b).0 s e)
cut (x ∷ xs) [] rest more a b s t e = absurd (goes_on x (xs ++ rest) more (all_parts x xs a).0 t (sym e))
cut (x ∷ xs) (y ∷ ys) rest more a b s t e =
    let same : x ≡ y = cc in
    let tails : xs ++ rest ≡ ys ++ more = cc in
    let later = cut xs ys rest more (all_parts x xs a).1 (all_parts y ys b).1 s t tails in
    ap (λ z. z ∷ xs) same ∙ ap (λ zs. y ∷ zs) later

passes : (m n : ℕ) → m < n → nat_lt m n ≡ true
passes m n low = grind (arith, nat_tests)

digits_pass : (ds : List ℕ) → AllDigits 10 ds → list_all is_digit ds ≡ true
unfolding is_digit
digits_pass [] all = refl
digits_pass (d ∷ ds) all =
    let here : nat_lt (digit_value d) 10 ≡ true = passes (digit_value d) 10 all.0 in
    rw here (digits_pass ds all.1)

pub decimal_front : (m n : ℕ) (rest more : List ℕ) → m < 2 ^ 64 → n < 2 ^ 64 → stops rest ≡ true → stops more ≡ true
    → decimal m ++ rest ≡ decimal n ++ more → m ≡ n
decimal_front m n rest more fits fit s t e =
    decimal_injective m n fits fit
    (cut (decimal m) (decimal n) rest more (digits_pass (decimal m) (decimal_is_IsNumeral m fits).0.1)
    (digits_pass (decimal n) (decimal_is_IsNumeral n fit).0.1) s t e)

-- a closing bracket is no digit
pub closed : (rest : List ℕ) → stops (93 ∷ rest) ≡ true
unfolding stops is_digit
closed rest = refl
