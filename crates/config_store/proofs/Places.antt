-- Lists by their places.
use Rattle.std.proofs.Common.{◌≡◌, ℕ, zero, suc, ◌+◌, ◌<◌, List, [], ◌∷◌, ◌++◌, length, get_or, take, drop, cond}
use Rattle.std.proofs.Common.{Bool, true, false, Some, slice_get, refl, ap, sym, ◌∙◌, append_assoc}
use Rattle.std.specs.List.{filter, list_any}
use Rattle.std.proofs.lemmas.Bool.{false≢true}
use Rattle.std.proofs.lemmas.List.{drop_more}
use Rattle.std.proofs.lemmas.Option.{slice_get_within, get_or_from_slice_get}

module _ {T : Type 0} where
  -- what is left of a list from the place of an element on
  pub drop_at : (xs : List T) (i : ℕ) (x : T) → slice_get xs i ≡ Some x → drop i xs ≡ x ∷ drop (i + 1) xs
  drop_at xs i x at =
      drop_more xs i x (slice_get_within xs i x at)
      ∙ ap (λ y. y ∷ drop (i + 1) xs) (get_or_from_slice_get xs i x x at)

  pub drop_read : (xs : List T) (i : ℕ) (x : T) → i < length xs → x ≡ get_or xs i x → drop i xs ≡ x ∷ drop (i + 1) xs
  drop_read xs i x within here = drop_more xs i x within ∙ ap (λ y. y ∷ drop (i + 1) xs) (sym here)

  pub same_place : (xs : List T) (i : ℕ) (x y : T) → slice_get xs i ≡ Some x → slice_get xs i ≡ Some y → x ≡ y
  same_place xs i x y p q = cc

  -- something at a place passes a test
  abbrev pub HasPassing : (T → Bool) → List T → Type 0
  HasPassing p xs = (k : ℕ) × (x : T) × (slice_get xs k ≡ Some x) × (p x ≡ true)

  first_or_later : (p : T → Bool) (x : T) (xs : List T) (b : Bool) → p x ≡ b → list_any p (x ∷ xs) ≡ true
      → (list_any p xs ≡ true → HasPassing p xs) → HasPassing p (x ∷ xs)
  first_or_later p x xs true is h later = (zero, x, refl, is)
  first_or_later p x xs false is h later =
      let rest : list_any p xs ≡ true = cc in
      let (k, y, at, passes) = later rest in
      (suc k, y, at, passes)

  pub any_has : (p : T → Bool) (xs : List T) → list_any p xs ≡ true → HasPassing p xs
  any_has p [] h = absurd (false≢true h)
  any_has p (x ∷ xs) h = first_or_later p x xs (p x) refl h (λ rest. any_has p xs rest)

  not_first : (p : T → Bool) (y : T) (ys : List T) (k : ℕ) (x : T) (b : Bool) → p y ≡ b → list_any p (y ∷ ys) ≡ false
      → slice_get (y ∷ ys) k ≡ Some x → ((m : ℕ) → list_any p ys ≡ false → slice_get ys m ≡ Some x → p x ≡ false)
      → p x ≡ false
  not_first p y ys k x true is h at later = let bad : ⊥ = cc in absurd bad
  not_first p y ys zero x false is h at later = cc
  not_first p y ys (suc k) x false is h at later = let rest : list_any p ys ≡ false = cc in later k rest at

  pub none_has : (p : T → Bool) (xs : List T) (k : ℕ) (x : T) → list_any p xs ≡ false → slice_get xs k ≡ Some x
      → p x ≡ false
  none_has p [] k x h at = let bad : ⊥ = cc in absurd bad
  none_has p (y ∷ ys) k x h at = not_first p y ys k x (p y) refl h at (λ m rest there. none_has p ys m x rest there)

  pub any_same : (p q : T → Bool) (xs : List T) → ((k : ℕ) (x : T) → slice_get xs k ≡ Some x → p x ≡ q x)
      → list_any p xs ≡ list_any q xs
  any_same p q [] same = refl
  any_same p q (x ∷ xs) same =
      let here : p x ≡ q x = same zero x refl in
      let rest : list_any p xs ≡ list_any q xs = any_same p q xs (λ k y at. same (suc k) y at) in
      cc

  pub take_has : (xs : List T) (i k : ℕ) (x : T) → slice_get (take i xs) k ≡ Some x → slice_get xs k ≡ Some x
  take_has [] zero k x at = at
  take_has [] (suc i) k x at = at
  take_has (y ∷ ys) zero k x at = let bad : ⊥ = cc in absurd bad
  take_has (y ∷ ys) (suc i) zero x at = at
  take_has (y ∷ ys) (suc i) (suc k) x at = take_has ys i k x at

  -- it passes a test, and is in a list
  abbrev pub PassesIn : (T → Bool) → List T → T → Type 0
  PassesIn p xs x = (p x ≡ true) × ((m : ℕ) × (slice_get xs m ≡ Some x))

  passes_later : (p : T → Bool) (y : T) (ys : List T) (x : T) → PassesIn p ys x → PassesIn p (y ∷ ys) x
  passes_later p y ys x (passes, (m, there)) = (passes, (suc m, there))

  first_or_rest : (p : T → Bool) (y : T) (ys : List T) (k : ℕ) (x : T) (b : Bool) → p y ≡ b
      → slice_get (cond b (y ∷ filter p ys) (filter p ys)) k ≡ Some x
      → ((m : ℕ) → slice_get (filter p ys) m ≡ Some x → PassesIn p ys x) → PassesIn p (y ∷ ys) x
  first_or_rest p y ys zero x true is at rest = let passes : p x ≡ true = cc in (passes, (zero, at))
  first_or_rest p y ys (suc k) x true is at rest = passes_later p y ys x (rest k at)
  first_or_rest p y ys k x false is at rest = passes_later p y ys x (rest k at)

  pub filter_has : (p : T → Bool) (xs : List T) (k : ℕ) (x : T) → slice_get (filter p xs) k ≡ Some x → PassesIn p xs x
  filter_has p [] k x at = let bad : ⊥ = cc in absurd bad
  filter_has p (y ∷ ys) k x at = first_or_rest p y ys k x (p y) refl at (λ m there. filter_has p ys m x there)

  -- a filter that is taken element by element
  pub keep_step : (p : T → Bool) (xs done all : List T) (i : ℕ) (x : T) → slice_get xs i ≡ Some x → p x ≡ true
      → done ++ filter p (drop i xs) ≡ all → (done ++ x ∷ []) ++ filter p (drop (i + 1) xs) ≡ all
  keep_step p xs done all i x at passes so_far =
      let before : done ++ filter p (x ∷ drop (i + 1) xs) ≡ all = rw (drop_at xs i x at) at so_far in
      let split : done ++ x ∷ filter p (drop (i + 1) xs) ≡ all = rw passes at before in
      rw append_assoc split

  pub skip_step : (p : T → Bool) (xs done all : List T) (i : ℕ) (x : T) → slice_get xs i ≡ Some x → p x ≡ false
      → done ++ filter p (drop i xs) ≡ all → done ++ filter p (drop (i + 1) xs) ≡ all
  skip_step p xs done all i x at fails so_far =
      let before : done ++ filter p (x ∷ drop (i + 1) xs) ≡ all = rw (drop_at xs i x at) at so_far in
      rw fails at before
