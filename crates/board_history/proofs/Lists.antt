-- Lists item by item.
use Rattle.std.proofs.Common.{◌≡◌, ℕ, suc, ◌+◌, ◌<◌, List, ◌∷◌, length, drop, refl, sym, ap, ◌∙◌, add-one, drop-cons}
use Rattle.std.proofs.Common.{get_or, zero, [], ◌++◌, map, Option, Some, None, subst, arith}
use Rattle.std.specs.List.{AllByRecursion, slice_get}
use Rattle.std.proofs.lemmas.Option.{same_Some}

-- what is left begins with the next item
pub begins_at : {A : Type 0} (xs : List A) (i : ℕ) (x : A) → i < length xs → x ≡ get_or xs i x
    → drop i xs ≡ x ∷ drop (i + 1) xs
begins_at xs i x within is = drop-cons xs i x within ∙ (ap (λ y. y ∷ drop (suc i) xs) (sym is) ∙ rw add-one refl)

-- ---- two lists, item by item

abbrev pub Both : {A B : Type 0} → (A → B → Type 0) → List A → List B → Type 0
Both R [] [] = Unit {0}
Both R [] (y ∷ ys) = ⊥
Both R (x ∷ xs) [] = ⊥
Both R (x ∷ xs) (y ∷ ys) = R x y × Both R xs ys

module _ {A B : Type 0} (R : A → B → Type 0) where
  pub both_append : (xs : List A) (ys : List B) (more : List A) (others : List B) → Both R xs ys → Both R more others
      → Both R (xs ++ more) (ys ++ others)
  both_append [] [] more others one two = two
  both_append [] (y ∷ ys) more others one two = absurd one
  both_append (x ∷ xs) [] more others one two = absurd one
  both_append (x ∷ xs) (y ∷ ys) more others one two = (one.0, both_append xs ys more others one.1 two)

  pub both_at : (xs : List A) (ys : List B) (k : ℕ) (x : A) → Both R xs ys → slice_get xs k ≡ Some x
      → (y : B) × (slice_get ys k ≡ Some y) × R x y
  both_at [] ys k x both here = absurd cc
  both_at (z ∷ xs) [] k x both here = absurd both
  both_at (z ∷ xs) (y ∷ ys) zero x both here = (y, refl, subst (λ w. R w y) (same_Some z x here) both.0)
  both_at (z ∷ xs) (y ∷ ys) (suc k) x both here = both_at xs ys k x both.1 here

-- the same with what stands beside each item of a third list; behind its end nothing does
abbrev pub BothWith : {A B C : Type 0} → (A → B → Option C → Type 0) → List A → List B → List (Option C) → Type 0
BothWith R [] [] zs = Unit {0}
BothWith R [] (y ∷ ys) zs = ⊥
BothWith R (x ∷ xs) [] zs = ⊥
BothWith R (x ∷ xs) (y ∷ ys) zs = R x y (get_or zs 0 None) × BothWith R xs ys (drop 1 zs)

-- whatever stands beside them
pub both_with : {A B C : Type 0} (R : A → B → Type 0) (S : A → B → Option C → Type 0) (xs : List A) (ys : List B)
    (zs : List (Option C)) → ((x : A) (y : B) (z : Option C) → R x y → S x y z) → Both R xs ys → BothWith S xs ys zs
both_with R S [] [] zs g both = tt
both_with R S [] (y ∷ ys) zs g both = absurd both
both_with R S (x ∷ xs) [] zs g both = absurd both
both_with R S (x ∷ xs) (y ∷ ys) zs g both =
    (g x y (get_or zs 0 None) both.0, both_with R S xs ys (drop 1 zs) g both.1)

pub both_map : {A B C : Type 0} (R : A → B → Type 0) (S : A → C → Type 0) (f : B → C) (xs : List A) (ys : List B)
    → ((x : A) (y : B) → R x y → S x (f y)) → Both R xs ys → Both S xs (map f ys)
both_map R S f [] [] g both = tt
both_map R S f [] (y ∷ ys) g both = absurd both
both_map R S f (x ∷ xs) [] g both = absurd both
both_map R S f (x ∷ xs) (y ∷ ys) g both = (g x y both.0, both_map R S f xs ys g both.1)

pub both_same : {A B : Type 0} (R S : A → B → Type 0) (xs : List A) (ys : List B)
    → ((x : A) (y : B) → R x y → S x y) → Both R xs ys → Both S xs ys
both_same R S [] [] g both = tt
both_same R S [] (y ∷ ys) g both = absurd both
both_same R S (x ∷ xs) [] g both = absurd both
both_same R S (x ∷ xs) (y ∷ ys) g both = (g x y both.0, both_same R S xs ys g both.1)

pub get_back : {A : Type 0} (xs ys : List A) (k : ℕ) (x : A) → slice_get ys k ≡ Some x
    → slice_get (xs ++ ys) (length xs + k) ≡ Some x
get_back [] ys k x here =
    let same : k ≡ 0 + k = omega arith in
    subst (λ (n : ℕ). slice_get ys n ≡ Some x) same here
get_back (z ∷ xs) ys k x here =
    let same : suc (length xs + k) ≡ suc (length xs) + k = omega arith in
    subst (λ (n : ℕ). slice_get (z ∷ (xs ++ ys)) n ≡ Some x) same (get_back xs ys k x here)

pub all_at : {T : Type 0} (P : T → Type 0) (xs : List T) (k : ℕ) (x : T) → AllByRecursion P xs → slice_get xs k ≡ Some x
    → P x
all_at P [] k x all here = absurd cc
all_at P (y ∷ xs) zero x all here = subst P (same_Some y x here) all.0
all_at P (y ∷ xs) (suc k) x all here = all_at P xs k x all.1 here
