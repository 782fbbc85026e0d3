-- Readings by rules in their order: the first test that is true, and what is read where none is.
use Rattle.std.proofs.Common.{◌<◌, subst, ◌≡◌, ℕ, Bool, true, false, cond, not, List, ◌∷◌, get_or, take, drop, Result}
use Rattle.std.proofs.Common.{Ok, Err, refl, Fits, w32, arith, ◌+◌, add_comm, add-one, eqb, ltb, ◌≢◌}
use Rattle.std.proofs.lemmas.Bool.{ltb-false, ltb-true}
use Rattle.std.proofs.lemmas.Bool.Decides.{nat_tests}
use Rattle.ipb_base.specs.Word.{AreWords}
use Rattle.ipb_base.proofs.WordLemmas.{AreWords-at}
use Rattle.transaction_codec.specs.declared.refusal.Why.{Why}
use Rattle.transaction_codec.specs.declared.refusal.Why.TheVariants.{Version, Kind, Code, Count, Short}
use Rattle.transaction_codec.specs.Listing.{why_number, IsFirstRule}

-- one of five tests
abbrev pub test_of : Bool → Bool → Bool → Bool → Bool → Why → Bool
test_of a b c d e Version = a
test_of a b c d e Kind = b
test_of a b c d e Code = c
test_of a b c d e Count = d
test_of a b c d e Short = e

-- five tests in their order, each with its rule
abbrev pub by_tests : {A : Type 0} → Bool → Bool → Bool → Bool → Bool → A → Result A Why
by_tests a b c d e x =
    cond a (Err Version) (cond b (Err Kind) (cond c (Err Code) (cond d (Err Count) (cond e (Err Short) (Ok x)))))

-- the rule of the first test that is true
pub record IsFirstTest (a b c d e : Bool) (why : Why) : Type 0 where
  pub broken : test_of a b c d e why ≡ true
  pub earlier : (other : Why) → why_number other < why_number why → test_of a b c d e other ≡ false

before_kind : (b c d e : Bool) (other : Why) → why_number other < 2 → test_of false b c d e other ≡ false
before_kind b c d e Version lt = refl
before_kind b c d e Kind lt = absurd (omega arith)
before_kind b c d e Code lt = absurd (omega arith)
before_kind b c d e Count lt = absurd (omega arith)
before_kind b c d e Short lt = absurd (omega arith)

before_code : (c d e : Bool) (other : Why) → why_number other < 3 → test_of false false c d e other ≡ false
before_code c d e Version lt = refl
before_code c d e Kind lt = refl
before_code c d e Code lt = absurd (omega arith)
before_code c d e Count lt = absurd (omega arith)
before_code c d e Short lt = absurd (omega arith)

before_count : (d e : Bool) (other : Why) → why_number other < 4 → test_of false false false d e other ≡ false
before_count d e Version lt = refl
before_count d e Kind lt = refl
before_count d e Code lt = refl
before_count d e Count lt = absurd (omega arith)
before_count d e Short lt = absurd (omega arith)

before_short : (e : Bool) (other : Why) → why_number other < 5 → test_of false false false false e other ≡ false
before_short e Version lt = refl
before_short e Kind lt = refl
before_short e Code lt = refl
before_short e Count lt = refl
before_short e Short lt = absurd (omega arith)

before_version : (a b c d e : Bool) (other : Why) → why_number other < 1 → test_of a b c d e other ≡ false
before_version a b c d e Version lt = absurd (omega arith)
before_version a b c d e Kind lt = absurd (omega arith)
before_version a b c d e Code lt = absurd (omega arith)
before_version a b c d e Count lt = absurd (omega arith)
before_version a b c d e Short lt = absurd (omega arith)

abbrev pub read : {A : Type 0} → A → Result A Why
read x = Ok x

pub read_is : {A : Type 0} (x y : A) → read x ≡ read y → x ≡ y
read_is x y e = cc

abbrev pub refused : (A : Type 0) → Why → Result A Why
refused A why = Err why

pub not_both : {A : Type 0} (x : A) (why : Why) → refused A why ≡ read x → ⊥
not_both x why e = absurd cc

pub rule_is : (A : Type 0) (why other : Why) → refused A why ≡ refused A other → why ≡ other
rule_is A why other e = cc

pub first_test : {A : Type 0} (a b c d e : Bool) (x : A) (why : Why) → by_tests a b c d e x ≡ Err why
    → IsFirstTest a b c d e why
first_test {A = A} true b c d e x why h = subst (IsFirstTest true b c d e) (rule_is A Version why h)
    (record { broken = refl; earlier = before_version true b c d e })
first_test {A = A} false true c d e x why h = subst (IsFirstTest false true c d e) (rule_is A Kind why h)
    (record { broken = refl; earlier = before_kind true c d e })
first_test {A = A} false false true d e x why h = subst (IsFirstTest false false true d e) (rule_is A Code why h)
    (record { broken = refl; earlier = before_code true d e })
first_test {A = A} false false false true e x why h = subst (IsFirstTest false false false true e)
    (rule_is A Count why h) (record { broken = refl; earlier = before_count true e })
first_test {A = A} false false false false true x why h = subst (IsFirstTest false false false false true)
    (rule_is A Short why h) (record { broken = refl; earlier = before_short true })
first_test {A = A} false false false false false x why h = absurd cc

-- where all is read, no test is true
pub no_test : {A : Type 0} (a b c d e : Bool) (x y : A) → by_tests a b c d e x ≡ Ok y → (rule : Why) → test_of a b c d
    e rule ≡ false
no_test true b c d e x y h rule = absurd cc
no_test false true c d e x y h rule = absurd cc
no_test false false true d e x y h rule = absurd cc
no_test false false false true e x y h rule = absurd cc
no_test false false false false true x y h rule = absurd cc
no_test false false false false false x y h Version = refl
no_test false false false false false x y h Kind = refl
no_test false false false false false x y h Code = refl
no_test false false false false false x y h Count = refl
no_test false false false false false x y h Short = refl

-- and what is read is what stands behind the tests
pub all_read : {A : Type 0} (a b c d e : Bool) (x y : A) → by_tests a b c d e x ≡ Ok y → x ≡ y
all_read a b c d e x y h =
    let none = no_test a b c d e x y h in
    read_is x y (rw (none Version, none Kind, none Code, none Count, none Short) at h)

-- each test says whether its rule is broken
pub record Says (test : Bool) (Broken : Type 0) : Type 0 where
  pub yes : test ≡ true → Broken
  pub not_so : test ≡ false → Broken → ⊥

pub says_less : (n m : ℕ) → Says (ltb n m) (n < m)
says_less n m = record { yes = λ e. ltb-true _ _ e; not_so = λ e lt. omega (arith, ltb-false _ _ e, lt) }

pub says_differs : (n m : ℕ) → Says (not (eqb n m)) (n ≢ m)
says_differs n m = record { yes = λ e. grind (arith, nat_tests); not_so = λ e. grind (arith, nat_tests) }

pub first_rule : (Breaks : Why → ℕ → List ℕ → Type 0) (word : ℕ) (after : List ℕ) (a b c d e : Bool) (why : Why)
    → ((rule : Why) → Says (test_of a b c d e rule) (Breaks rule word after))
    → IsFirstTest a b c d e why → IsFirstRule Breaks (word ∷ after) why
first_rule Breaks word after a b c d e why says first =
    ((says why).yes first.broken, λ other lt. (says other).not_so (first.earlier other lt))

pub not-false : (b : Bool) → not b ≡ false → b ≡ true
not-false true e = refl
not-false false e = absurd cc

-- the words of a slice have 32 bits
pub words_fit : (words : List ℕ) → ((i : ℕ) → Fits w32 (get_or words i 0)) → AreWords words
words_fit words fits = AreWords-at words (λ i. omega (arith, fits i))

pub take-front : (n : ℕ) (word : ℕ) (words : List ℕ) → take (1 + n) (word ∷ words) ≡ word ∷ take n words
take-front n word words = rw (add_comm 1 n, add-one) refl

pub drop-front : (n : ℕ) (word : ℕ) (words : List ℕ) → drop (1 + n) (word ∷ words) ≡ drop n words
drop-front n word words = rw (add_comm 1 n, add-one) refl
