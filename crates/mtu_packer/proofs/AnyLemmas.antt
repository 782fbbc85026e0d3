-- What holds of some element, through appending, mapping and flattening.
use Rattle.std.proofs.Common.{◌≡◌, ◌⊎◌, ℕ, zero, suc, List, [], ◌∷◌, ◌++◌, inl, inr, refl, sym}
use Rattle.std.proofs.Common.{subst, arith, map, Some, slice_get}
use Rattle.std.proofs.lemmas.Option.{same_Some}
use Rattle.std.specs.List.{Any, flat_map}

pub any_same : {T : Type 0} (P Q : T → Type 0) (xs : List T) → ((x : T) → P x → Q x) → Any P xs → Any Q xs
any_same P Q xs f any = (any.0, any.1, any.2, any.3, f any.1 any.4)

module _ {T : Type 0} (P : T → Type 0) where
  pub any_nowhere : Any P [] → ⊥
  any_nowhere any = omega (arith, any.2)

  pub any_here : (x : T) (xs : List T) → P x → Any P (x ∷ xs)
  any_here x xs is = (0, x, omega arith, refl, is)

  pub any_later : (x : T) (xs : List T) → Any P xs → Any P (x ∷ xs)
  any_later x xs any = (suc any.0, any.1, omega (arith, any.2), any.3, any.4)

  pub any_cases : (x : T) (xs : List T) → Any P (x ∷ xs) → P x ⊎ Any P xs
  any_cases x xs (zero, y, within, at, is) = inl (subst P (sym at) is)
  any_cases x xs (suc k, y, within, at, is) = inr (k, y, omega arith, at, is)

  pub any_front : (xs ys : List T) → Any P xs → Any P (xs ++ ys)
  any_front [] ys any = absurd (any_nowhere any)
  any_front (x ∷ xs) ys any = elim (any_cases x xs any) [
    | inl here ↦ any_here x (xs ++ ys) here
    | inr later ↦ any_later x (xs ++ ys) (any_front xs ys later)
  ]

  pub any_back : (xs ys : List T) → Any P ys → Any P (xs ++ ys)
  any_back [] ys any = any
  any_back (x ∷ xs) ys any = any_later x (xs ++ ys) (any_back xs ys any)

  pub any_append : (xs ys : List T) → Any P (xs ++ ys) → Any P xs ⊎ Any P ys
  any_append [] ys any = inr any
  any_append (x ∷ xs) ys any = elim (any_cases x (xs ++ ys) any) [
    | inl here ↦ inl (any_here x xs here)
    | inr later ↦ elim (any_append xs ys later) [
      | inl front ↦ inl (any_later x xs front)
      | inr back ↦ inr back
    ]
  ]

  -- some element of lists joined is some element of one of them
  pub any_in_one : (lists : List (List T)) → Any P (flat_map (λ xs. xs) lists) → Any (Any P) lists
  any_in_one [] any = absurd (any_nowhere any)
  any_in_one (xs ∷ lists) any = elim (any_append xs (flat_map (λ ys. ys) lists) any) [
    | inl front ↦ (0, xs, omega arith, refl, front)
    | inr back ↦ let later = any_in_one lists back in
        (suc later.0, later.1, omega (arith, later.2), later.3, later.4)
  ]

  -- some element is one at a position
  pub any_at : (xs : List T) (k : ℕ) (x : T) → slice_get xs k ≡ Some x → P x → Any P xs
  any_at [] k x here is = absurd cc
  any_at (y ∷ ys) zero x here is = any_here y ys (subst P (sym (same_Some y x here)) is)
  any_at (y ∷ ys) (suc k) x here is = any_later y ys (any_at ys k x here is)

  pub at_any : (xs : List T) → Any P xs → (k : ℕ) × (x : T) × (slice_get xs k ≡ Some x) × P x
  at_any [] any = absurd (any_nowhere any)
  at_any (x ∷ xs) any = elim (any_cases x xs any) [
    | inl here ↦ (0, x, refl, here)
    | inr later ↦ let at = at_any xs later in (suc at.0, at.1, at.2, at.3)
  ]

module _ {S T : Type 0} (P : T → Type 0) (f : S → T) where
  pub any_map : (xs : List S) → Any (λ x. P (f x)) xs → Any P (map f xs)
  any_map [] any = absurd (any_nowhere (λ x. P (f x)) any)
  any_map (x ∷ xs) any = elim (any_cases (λ y. P (f y)) x xs any) [
    | inl here ↦ any_here P (f x) (map f xs) here
    | inr later ↦ any_later P (f x) (map f xs) (any_map xs later)
  ]

  pub map_any : (xs : List S) → Any P (map f xs) → Any (λ x. P (f x)) xs
  map_any [] any = absurd (any_nowhere P any)
  map_any (x ∷ xs) any = elim (any_cases P (f x) (map f xs) any) [
    | inl here ↦ any_here (λ y. P (f y)) x xs here
    | inr later ↦ any_later (λ y. P (f y)) x xs (map_any xs later)
  ]
