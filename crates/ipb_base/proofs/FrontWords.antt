-- A word at the front of a text.
use Rattle.std.proofs.Common.{◌≡◌, ◌≢◌, ℕ, List, [], ◌∷◌, ◌++◌, Option, Some, None, Bor, refl, ap, ◌∙◌, arith}
use Rattle.std.proofs.Common.{nat_eq, true, inl, inr}
use Rattle.std.specs.Option.{MatchOption}
use Rattle.std.proofs.lemmas.Bool.{cases_Bool}
use Rattle.std.proofs.lemmas.Bool.Decides.{nat_tests}
use Rattle.ipb_base.specs.Fronts.{behind, Finds}

same_byte : (b : ℕ) → nat_eq b b ≡ true
same_byte b = grind (arith, nat_tests)

is_same : (b c : ℕ) → nat_eq b c ≡ true → b ≡ c
is_same b c e = grind (arith, nat_tests)

-- what begins with a word is read so
pub behind_again : (word rest : List ℕ) → behind word (word ++ rest) ≡ Some rest
behind_again [] rest = refl
behind_again (c ∷ word) rest = rw (same_byte c) (behind_again word rest)

-- what is read so begins with it
pub behind_found : (word text rest : List ℕ) → behind word text ≡ Some rest → text ≡ word ++ rest
behind_found [] text rest e = cc
behind_found (c ∷ word) [] rest e = absurd cc
behind_found (c ∷ word) (b ∷ text) rest e =
    elim (cases_Bool (nat_eq b c)) [
      | inl same ↦
          (let here : behind word text ≡ Some rest = rw same at e in
          ap (λ x. x ∷ text) (is_same b c same) ∙ ap (λ xs. c ∷ xs) (behind_found word text rest here))
      | inr other ↦ (let none = rw other at e in absurd cc)
    ]

none_by : (word text : List ℕ) (r : Option (List ℕ)) → behind word text ≡ r
    → ((rest : List ℕ) → text ≢ word ++ rest) → behind word text ≡ None
none_by word text None e none = e
none_by word text (Some rest) e none = absurd (none rest (behind_found word text rest e))

-- what begins with no such word is not read
pub behind_none : (word text : List ℕ) → ((rest : List ℕ) → text ≢ word ++ rest) → behind word text ≡ None
behind_none word text none = none_by word text (behind word text) refl none

pub finds_behind : (word text : List ℕ) (r : Option (Bor (List ℕ)))
    → MatchOption r ((rest : List ℕ) → text ≢ word ++ rest) (λ x. text ≡ word ++ x.now)
    → Finds {X = Bor (List ℕ)} {Y = List ℕ} (λ rest. rest.now) r (behind word text)
finds_behind word text None none = behind_none word text none
finds_behind word text (Some x) is = ap (behind word) is ∙ behind_again word x.now
