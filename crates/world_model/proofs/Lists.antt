-- Lists and what stands at their places.
use Rattle.std.proofs.Common.{◌≡◌, ℕ, zero, suc, ◌+◌, ◌<◌, ◌≤◌, Bool, true, false, cond, List, [], ◌∷◌, ◌++◌}
use Rattle.std.proofs.Common.{length, drop, map, Some, refl, sym, ap, ◌∙◌, subst, arith, length-append}
use Rattle.std.proofs.Common.{add-one, append_assoc, ◌==◌, inl, inr}
use Rattle.std.proofs.lemmas.Bool.Decides.{eqb_tells}
use Rattle.std.specs.List.{AllByRecursion, slice_get}
use Rattle.ipb_base.specs.Lists.{IsPrefix}
use Rattle.world_model.specs.Places.{at_place}

pub either : {A : Type 0} (P : A → Type 0) (b : Bool) (x y : A) → (b ≡ true → P x) → (b ≡ false → P y) → P (cond b x y)
either P true x y f g = f refl
either P false x y f g = g refl

-- numbers that are not equal
pub differ : (a b : ℕ) → (a ≡ b → ⊥) → (a == b) ≡ false
differ a b other = elim (eqb_tells a b) [
  | inl same ↦ absurd (other same.1)
  | inr apart ↦ apart.0
]

pub get_front : {A : Type 0} (xs ys : List A) (k : ℕ) (x : A) → slice_get xs k ≡ Some x
    → slice_get (xs ++ ys) k ≡ Some x
get_front [] ys k x e = absurd (cc)
get_front (y ∷ xs) ys zero x e = e
get_front (y ∷ xs) ys (suc k) x e = get_front xs ys k x e

pub at_front : {A : Type 0} (xs ys : List A) (k : ℕ) (x : A) → at_place xs k ≡ Some x → at_place (xs ++ ys) k ≡ Some x
at_front xs ys zero x e = absurd (cc)
at_front xs ys (suc k) x e = get_front xs ys k x e

pub get_seam : {A : Type 0} (xs ys : List A) (y : A) → slice_get (xs ++ y ∷ ys) (length xs) ≡ Some y
get_seam [] ys y = refl
get_seam (x ∷ xs) ys y = get_seam xs ys y

pub at_seam : {A : Type 0} (xs ys : List A) (y : A) → at_place (xs ++ y ∷ ys) (length xs + 1) ≡ Some y
at_seam xs ys y = rw add-one (get_seam xs ys y)

pub get_within : {A : Type 0} (xs : List A) (k : ℕ) (x : A) → slice_get xs k ≡ Some x → k < length xs
get_within [] k x e = absurd (cc)
get_within (y ∷ xs) zero x e = omega arith
get_within (y ∷ xs) (suc k) x e = let h = get_within xs k x e in omega arith

pub at_from_one : {A : Type 0} (xs : List A) (k : ℕ) (x : A) → at_place xs k ≡ Some x → 1 ≤ k
at_from_one xs zero x e = absurd (cc)
at_from_one xs (suc k) x e = omega arith

pub at_within : {A : Type 0} (xs : List A) (k : ℕ) (x : A) → at_place xs k ≡ Some x → k ≤ length xs
at_within xs zero x e = absurd (cc)
at_within xs (suc k) x e = let h = get_within xs k x e in omega arith

pub all_get : {A : Type 0} (P : A → Type 0) (xs : List A) (k : ℕ) (x : A) → AllByRecursion P xs
    → slice_get xs k ≡ Some x → P x
all_get P [] k x all e = absurd (cc)
all_get P (y ∷ xs) zero x all e = let same : y ≡ x = cc in subst P same all.0
all_get P (y ∷ xs) (suc k) x all e = all_get P xs k x all.1 e

pub get_drop : {A : Type 0} (n : ℕ) (xs : List A) (k : ℕ) (x : A) → slice_get (drop n xs) k ≡ Some x
    → slice_get xs (n + k) ≡ Some x
get_drop zero xs k x e = let s : 0 + k ≡ k = omega arith in rw s e
get_drop (suc n) [] k x e = absurd (cc)
get_drop (suc n) (y ∷ xs) k x e = let s : suc n + k ≡ suc (n + k) = omega arith in rw s (get_drop n xs k x e)

get_right : {A : Type 0} (xs ys : List A) → slice_get (xs ++ ys) (length xs) ≡ slice_get ys 0
get_right [] ys = refl
get_right (x ∷ xs) ys = get_right xs ys

front_by : {A : Type 0} (done all rest : List A) (x : A) → all ≡ done ++ rest → slice_get rest 0 ≡ Some x
    → IsPrefix (done ++ x ∷ []) all
front_by done all [] x e h = absurd (cc)
front_by done all (y ∷ rest) x e h = let same : y ≡ x =
    cc in (rest, e ∙ (ap (λ z. done ++ z ∷ rest) same ∙ simp append_assoc))

-- the body at the place after a front
pub front_grows : {A : Type 0} (done all : List A) (x : A) → IsPrefix done all → at_place all (length done + 1) ≡ Some x
    → IsPrefix (done ++ x ∷ []) all
front_grows {A = A} done all x front e =
    let here : slice_get all (length done) ≡ Some x = rw add-one at e in
    front_by done all front.0 x front.1 (sym (get_right done front.0)
    ∙ (ap (λ (zs : List A). slice_get zs (length done)) (sym front.1) ∙ here))

pub front_more : {A : Type 0} (done all more : List A) → IsPrefix done all → IsPrefix done (all ++ more)
front_more {A = A} done all more front = (
  front.0 ++ more,
  ap (λ (zs : List A). zs ++ more) front.1
      ∙ append_assoc done front.0 more,
)

pub front_length : {A : Type 0} (done all : List A) → IsPrefix done all → length done ≤ length all
front_length done all front = omega (arith, ap length front.1, length-append done front.0)

get_exists : {A : Type 0} (xs : List A) (k : ℕ) → k < length xs → (x : A) × (slice_get xs k ≡ Some x)
get_exists [] k h = absurd (omega arith)
get_exists (x ∷ xs) zero h = (x, refl)
get_exists (x ∷ xs) (suc k) h = get_exists xs k (omega arith)

pub at_exists : {A : Type 0} (xs : List A) (k : ℕ) → 1 ≤ k → k ≤ length xs → (x : A) × (at_place xs k ≡ Some x)
at_exists xs zero one h = absurd (omega arith)
at_exists xs (suc k) one h = get_exists xs k (omega arith)

pub get_map : {A B : Type 0} (f : A → B) (xs : List A) (k : ℕ) (x : A) → slice_get xs k ≡ Some x
    → slice_get (map f xs) k ≡ Some (f x)
get_map f [] k x e = absurd (cc)
get_map f (y ∷ xs) zero x e = let same : y ≡ x = cc in ap (λ z. Some (f z)) same
get_map f (y ∷ xs) (suc k) x e = get_map f xs k x e

pub at_map : {A B : Type 0} (f : A → B) (xs : List A) (k : ℕ) (x : A) → at_place xs k ≡ Some x
    → at_place (map f xs) k ≡ Some (f x)
at_map f xs zero x e = absurd (cc)
at_map f xs (suc k) x e = get_map f xs k x e
