-- Items one after the other at the front of a text.
use Rattle.std.proofs.Common.{◌≡◌, ℕ, zero, suc, ◌<◌, ◌≤◌, List, [], ◌∷◌, ◌++◌, length, Option, Some, None, refl, sym}
use Rattle.std.proofs.Common.{ap, ◌∙◌, arith, append_assoc}
use Rattle.std.specs.List.{AllByRecursion, flat_map}
use Rattle.ipb_base.specs.Fronts.{Front, in_front, many_by, many, all_of, ◌>>=◌}

-- what is read is taken off the text
abbrev pub Shortens : {A : Type 0} → (List ℕ → Front A) → Type 0
Shortens {A = A} at = (text rest : List ℕ) (a : A) → at text ≡ Some (a, rest) → length rest < length text

module _ {A : Type 0} (at : List ℕ → Front A) (short : Shortens at) where
  empty_by : (later : List ℕ → List A × List ℕ) (text : List ℕ) (r : Front A) → at text ≡ r → length text ≤ 0
      → ([], text) ≡ many_by later text r
  empty_by later text None e none = refl
  empty_by later text (Some (a, rest)) e none = absurd (omega (arith, short text rest a e))

  enough_by : (m n : ℕ) (text : List ℕ) (r : Front A) → at text ≡ r
      → ((rest : List ℕ) → length rest < length text → many at m rest ≡ many at n rest)
      → many_by (many at m) text r ≡ many_by (many at n) text r
  enough_by m n text None e same = refl
  enough_by m n text (Some (a, rest)) e same = ap (in_front a) (same rest (short text rest a e))

  -- a greater bound changes nothing
  enough : (m n : ℕ) (text : List ℕ) → length text ≤ m → length text ≤ n → many at m text ≡ many at n text
  enough zero zero text l k = refl
  enough zero (suc n) text l k = empty_by (many at n) text (at text) refl l
  enough (suc m) zero text l k = sym (empty_by (many at m) text (at text) refl k)
  enough (suc m) (suc n) text l k =
      enough_by m n text (at text) refl (λ rest less. enough m n rest (omega arith) (omega arith))

  step_by : (m : ℕ) (text rest : List ℕ) (a : A) → at text ≡ Some (a, rest) → length text ≤ m
      → many at m text ≡ in_front a (all_of at rest)
  step_by zero text rest a e l = absurd (omega (arith, short text rest a e))
  step_by (suc m) text rest a e l =
      ap (many_by (many at m) text) e
      ∙ ap (in_front a) (enough m (length rest) rest (omega (arith, short text rest a e)) (omega arith))

  -- one is read, and then the others
  pub all_step : (text rest : List ℕ) (a : A) → at text ≡ Some (a, rest)
      → all_of at text ≡ in_front a (all_of at rest)
  all_step text rest a e = step_by (length text) text rest a e (omega arith)

  stop_by : (m : ℕ) (text : List ℕ) → at text ≡ None → many at m text ≡ ([], text)
  stop_by zero text e = refl
  stop_by (suc m) text e = ap (many_by (many at m) text) e

  -- none stands there
  pub all_stop : (text : List ℕ) → at text ≡ None → all_of at text ≡ ([], text)
  all_stop text e = stop_by (length text) text e

  -- one more is behind those that were read
  pub one_more : (done : List A) (text rest : List ℕ) (a : A) → at text ≡ Some (a, rest)
      → (done ++ a ∷ []) ++ (all_of at rest).0 ≡ done ++ (all_of at text).0
  one_more done text rest a e = rw (all_step text rest a e, append_assoc) refl

-- the text behind what was read
abbrev pub rest_of : {A : Type 0} → Front A → List ℕ
rest_of (Some read) = read.1
rest_of None = []

abbrev pub item_or : {A : Type 0} → A → Front A → A
item_or a (Some read) = read.0
item_or a None = a

pub parts_of : {A : Type 0} (a b : A) (text rest : List ℕ) → ◌≡◌ {A = Front A} (Some (a, text)) (Some (b, rest))
    → (a ≡ b) × (text ≡ rest)
parts_of a b text rest e = (ap (item_or a) e, ap rest_of e)

-- what is tried first has an answer
pub bound : {A B : Type 0} (r : Option A) (f : A → Option B) (y : B) → (r >>= f) ≡ Some y
    → (x : A) × (r ≡ Some x) × (f x ≡ Some y)
bound None f y e = absurd cc
bound (Some x) f y e = (x, refl, e)

module _ {A : Type 0} (at : List ℕ → Front A) (short : Shortens at) (spell : A → List ℕ) (Is : A → Type 0) where
  -- what is spelled so is read again, and then what stands behind it
  pub all_again : ((a : A) (rest : List ℕ) → Is a → at (spell a ++ rest) ≡ Some (a, rest)) → (items : List A)
      (rest : List ℕ) → AllByRecursion Is items → at rest ≡ None
      → all_of at (flat_map spell items ++ rest) ≡ (items, rest)
  all_again again [] rest are none = all_stop at short rest none
  all_again again (a ∷ items) rest are none =
      let tail = flat_map spell items ++ rest in
      ap (all_of at) (append_assoc (spell a) (flat_map spell items) rest)
      ∙ (all_step at short (spell a ++ tail) tail a (again a tail are.0)
      ∙ ap (in_front a) (all_again again items rest are.1 none))

  Spelled : List ℕ → List A × List ℕ → Type 0
  Spelled text read = AllByRecursion Is read.0 × (text ≡ flat_map spell read.0 ++ read.1)

  found_by : ((text rest : List ℕ) (a : A) → at text ≡ Some (a, rest) → Is a × (text ≡ spell a ++ rest)) → (m : ℕ)
      (text : List ℕ) (r : Front A) → at text ≡ r → ((rest : List ℕ) → Spelled rest (many at m rest))
      → Spelled text (many_by (many at m) text r)
  unfolding Spelled
  found_by found m text None e later = (tt, refl)
  found_by found m text (Some (a, rest)) e later =
      let here = found text rest a e in
      let more = later rest in (
        (here.0, more.0),
        here.1 ∙ (ap (λ (t : List ℕ). spell a ++ t) more.1
            ∙ sym (append_assoc (spell a) (flat_map spell (many at m rest).0) (many at m rest).1)),
      )

  many_found : ((text rest : List ℕ) (a : A) → at text ≡ Some (a, rest) → Is a × (text ≡ spell a ++ rest)) → (m : ℕ)
      (text : List ℕ) → Spelled text (many at m text)
  unfolding Spelled
  many_found found zero text = (tt, refl)
  many_found found (suc m) text = found_by found m text (at text) refl (λ rest. many_found found m rest)

  -- what is read is spelled so
  pub all_found : ((text rest : List ℕ) (a : A) → at text ≡ Some (a, rest) → Is a × (text ≡ spell a ++ rest))
      → (text : List ℕ)
      → AllByRecursion Is (all_of at text).0 × (text ≡ flat_map spell (all_of at text).0 ++ (all_of at text).1)
  unfolding Spelled
  all_found found text = many_found found (length text) text
