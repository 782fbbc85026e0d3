-- A stable sort by place, and the replies to what it gives.
use Rattle.std.proofs.Common.{◌≡◌, ◌≢◌, ℕ, zero, suc, ◌<◌, ◌≤◌, Bool, true, false, List, [], ◌∷◌, length, refl, ap, sym}
use Rattle.std.proofs.Common.{◌∙◌, arith, get_or, cond}
use Rattle.std.specs.Prelude.{nat_le}
use Rattle.std.specs.List.{AllByRecursion, filter}
use Rattle.std.specs.List.Sorted.{IsNonDecreasingBy, ties}
use Rattle.std.specs.Ordering.{is_lt, nat_cmp}
use Rattle.std.proofs.lemmas.Bool.Decides.{nat_tests}

pub either : {A : Type 0} (P : A → Type 0) (b : Bool) (x y : A) → (b ≡ true → P x) → (b ≡ false → P y) → P (cond b x y)
either P true x y f g = f refl
either P false x y f g = g refl

module _ {X : Type 0} (key : X → ℕ) where
  -- ---- insertion, as `by_place` does it

  abbrev pub inserted : X → List X → List X
  inserted x [] = x ∷ []
  inserted x (y ∷ ys) = cond (nat_le (key x) (key y)) (x ∷ (y ∷ ys)) (y ∷ inserted x ys)

  abbrev pub sorted : List X → List X
  sorted [] = []
  sorted (x ∷ xs) = inserted x (sorted xs)

  abbrev pub AreNotBelow : X → List X → Type 0
  AreNotBelow x ys = AllByRecursion (λ y. key x ≤ key y) ys

  abbrev pub Rise : List X → Type 0
  Rise [] = Unit {0}
  Rise (x ∷ xs) = AreNotBelow x xs × Rise xs

  abbrev pub tie : X → X → Bool
  tie x y = ties (λ a b. is_lt (nat_cmp (key a) (key b))) x y

  tie_same : (x y : X) → key x ≡ key y → tie x y ≡ true
  tie_same x y same = grind (arith, nat_tests)

  tie_other : (x y : X) → key x ≢ key y → tie x y ≡ false
  tie_other x y other = grind (arith, nat_tests)

  -- ---- what is sorted rises

  all_inserted : (P : X → Type 0) (x : X) (ys : List X) → P x → AllByRecursion P ys → AllByRecursion P (inserted x ys)
  all_inserted P x [] here all = (here, tt)
  all_inserted P x (y ∷ ys) here all =
      either (AllByRecursion P) (nat_le (key x) (key y)) (x ∷ (y ∷ ys)) (y ∷ inserted x ys)
      (λ _. (here, all)) (λ _. (all.0, all_inserted P x ys here all.1))

  below_more : (x y : X) (ys : List X) → key x ≤ key y → AreNotBelow y ys → AreNotBelow x ys
  below_more x y [] le all = tt
  below_more x y (z ∷ ys) le all = (omega (arith, all.0), below_more x y ys le all.1)

  rise_inserted : (x : X) (ys : List X) → Rise ys → Rise (inserted x ys)
  rise_inserted x [] rise = (tt, tt)
  rise_inserted x (y ∷ ys) rise =
      either Rise (nat_le (key x) (key y)) (x ∷ (y ∷ ys)) (y ∷ inserted x ys)
      (λ low. let le : key x ≤ key y = grind (arith, nat_tests) in ((le, below_more x y ys le rise.0), rise))
      (λ high. let le : key y ≤ key x = grind (arith, nat_tests) in
      (all_inserted (λ z. key y ≤ key z) x ys le rise.0, rise_inserted x ys rise.1))

  pub rise_sorted : (xs : List X) → Rise (sorted xs)
  rise_sorted [] = tt
  rise_sorted (x ∷ xs) = rise_inserted x (sorted xs) (rise_sorted xs)

  -- ---- ties keep their order

  tie_tells : (x y : X) → tie x y ≡ true → key x ≡ key y
  tie_tells x y same = grind (arith, nat_tests)

  -- two of which one is left out may change places
  swapped : (a b : Bool) (x y : X) (l r : List X) → (a ≡ true → b ≡ true → ⊥) → l ≡ cond a (x ∷ r) r
      → cond b (y ∷ l) l ≡ cond a (x ∷ cond b (y ∷ r) r) (cond b (y ∷ r) r)
  swapped true true x y l r apart same = absurd (apart refl refl)
  swapped true false x y l r apart same = same
  swapped false true x y l r apart same = ap (λ rest. y ∷ rest) same
  swapped false false x y l r apart same = same

  kept : (z x : X) (ys : List X) → filter (tie z) (inserted x ys) ≡ filter (tie z) (x ∷ ys)
  kept z x [] = refl
  kept z x (y ∷ ys) =
      either (λ l. filter (tie z) l ≡ filter (tie z) (x ∷ (y ∷ ys))) (nat_le (key x) (key y)) (x ∷ (y ∷ ys))
      (y ∷ inserted x ys) (λ _. refl)
      (λ high. let lt : key y < key x = grind (arith, nat_tests) in
      swapped (tie z x) (tie z y) x y (filter (tie z) (inserted x ys)) (filter (tie z) ys)
      (λ one other. let e : key z ≡ key x = tie_tells z x one in let f : key z ≡ key y = tie_tells z y other in
      omega arith) (kept z x ys))

  sorted_kept : (z : X) (xs : List X) → filter (tie z) (sorted xs) ≡ filter (tie z) xs
  sorted_kept z [] = refl
  sorted_kept z (x ∷ xs) =
      kept z x (sorted xs) ∙ ap (λ l. cond (tie z x) (x ∷ l) l) (sorted_kept z xs)

  -- ---- what rises is known by its ties

  none_tie : (z : X) (ys : List X) → AllByRecursion (λ y. key z < key y) ys → filter (tie z) ys ≡ []
  none_tie z [] all = refl
  none_tie z (y ∷ ys) all =
      let off : tie z y ≡ false = tie_other z y (λ e. omega (arith, all.0)) in
      let rest = none_tie z ys all.1 in
      rw off rest

  above : (z y : X) (ys : List X) → key z < key y → AreNotBelow y ys → AllByRecursion (λ w. key z < key w) ys
  above z y [] lt all = tt
  above z y (w ∷ ys) lt all = (omega (arith, all.0), above z y ys lt all.1)

  -- the first is at most each that ties with one of them
  first_low : (z y : X) (ys more : List X) → AreNotBelow y ys → filter (tie z) (y ∷ ys) ≡ z ∷ more → key y ≤ key z
  first_low z y ys more all there =
      either {A = ℕ} (λ _. key y ≤ key z) (nat_le (key y) (key z)) 0 0
      (λ low. grind (arith, nat_tests))
      (λ high. let lt : key z < key y = grind (arith, nat_tests) in
      let none : filter (tie z) (y ∷ ys) ≡ [] = none_tie z (y ∷ ys) (lt, above z y ys lt all) in
      absurd cc)

  starts : (z : X) (xs : List X) → filter (tie z) (z ∷ xs) ≡ z ∷ filter (tie z) xs
  starts z xs =
      let on : tie z z ≡ true = tie_same z z refl in
      rw on

  tail_same : (b : Bool) (x : X) (l r : List X) → cond b (x ∷ l) l ≡ cond b (x ∷ r) r → l ≡ r
  tail_same true x l r same = cc
  tail_same false x l r same = same

  head_same : (x y : X) (xs ys : List X) → key x ≡ key y
      → filter (tie x) (x ∷ xs) ≡ filter (tie x) (y ∷ ys) → x ≡ y
  head_same x y xs ys level same =
      let on : tie x y ≡ true = tie_same x y level in
      let e : filter (tie x) (y ∷ ys) ≡ y ∷ filter (tie x) ys = rw on in
      let f = starts x xs in
      cc

  pub same_order : (xs ys : List X) → Rise xs → Rise ys
      → ((z : X) → filter (tie z) xs ≡ filter (tie z) ys) → xs ≡ ys
  same_order [] [] up also same = refl
  same_order [] (y ∷ ys) up also same = let e = starts y ys in let f = same y in absurd cc
  same_order (x ∷ xs) [] up also same = let e = starts x xs in let f = same x in absurd cc
  same_order (x ∷ xs) (y ∷ ys) up also same =
      let low : key y ≤ key x = first_low x y ys (filter (tie x) xs) also.0 (sym (same x) ∙ starts x xs) in
      let high : key x ≤ key y = first_low y x xs (filter (tie y) ys) up.0 (same y ∙ starts y ys) in
      let e : x ≡ y = head_same x y xs ys (omega arith) (same x) in
      let rest : (z : X) → filter (tie z) (x ∷ xs) ≡ filter (tie z) (x ∷ ys) =
      λ z. same z ∙ ap (λ w. filter (tie z) (w ∷ ys)) (sym e) in
      let f = same_order xs ys up.1 also.1 (λ z. tail_same (tie z x) x (filter (tie z) xs) (filter (tie z) ys) (rest z)) in
      cc

  -- ---- rising by position, and by recursion

  all_of : (P : X → Type 0) (xs : List X) → ((k : ℕ) (d : X) → k < length xs → P (get_or xs k d)) → AllByRecursion P xs
  all_of P [] each = tt
  all_of P (x ∷ xs) each =
      (each 0 x (omega arith), all_of P xs (λ k d within. each (suc k) d (omega arith)))

  pub rise_of : (xs : List X) → IsNonDecreasingBy key xs → Rise xs
  rise_of [] up = tt
  rise_of (x ∷ xs) up = (
    all_of (λ y. key x ≤ key y) xs (λ k d within. up 0 (suc k) d (omega arith) (omega arith)),
    rise_of xs (λ i j d le within. up (suc i) (suc j) d (omega arith) (omega arith)),
  )

  all_get : (P : X → Type 0) (xs : List X) (k : ℕ) (d : X) → k < length xs → AllByRecursion P xs → P (get_or xs k d)
  all_get P [] k d within all = absurd (omega arith)
  all_get P (x ∷ xs) zero d within all = all.0
  all_get P (x ∷ xs) (suc k) d within all = all_get P xs k d (omega arith) all.1

  pub rises : (xs : List X) → Rise xs → IsNonDecreasingBy key xs
  rises [] up i j d le within = absurd (omega arith)
  rises (x ∷ xs) up zero zero d le within = omega arith
  rises (x ∷ xs) up zero (suc j) d le within = all_get (λ y. key x ≤ key y) xs j d (omega arith) up.0
  rises (x ∷ xs) up (suc i) zero d le within = absurd (omega arith)
  rises (x ∷ xs) up (suc i) (suc j) d le within = rises xs up.1 i j d (omega arith) (omega arith)

  -- a stable sort is by insertion
  pub stable_is_sorted : (xs ys : List X) → IsNonDecreasingBy key ys
      → ((z : X) → filter (tie z) ys ≡ filter (tie z) xs) → ys ≡ sorted xs
  stable_is_sorted xs ys up same =
      same_order ys (sorted xs) (rise_of ys up) (rise_sorted xs) (λ z. same z ∙ sym (sorted_kept z xs))
