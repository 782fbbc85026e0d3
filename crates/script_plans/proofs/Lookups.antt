-- Reading lists by position.
use Rattle.std.proofs.Common.{◌≡◌, ℕ, zero, suc, ◌+◌, ◌<◌, add-one, drop, drop-cons, length, get_or, List, [], ◌∷◌, map}
use Rattle.std.proofs.Common.{Some, refl, sym, ap, subst, ◌∙◌}
use Rattle.std.proofs.lemmas.List.{length-map}
use Rattle.std.specs.List.{AllByRecursion, slice_get}
use Rattle.std.specs.Option.{option_map}
use Rattle.std.proofs.lemmas.Option.{slice_get-map, slice_get_read, slice_get_within, get_or_from_slice_get, same_Some}

-- what holds of each element holds of the one at a position
pub all_at : {T : Type 0} (P : T → Type 0) (xs : List T) (k : ℕ) (x : T) → slice_get xs k ≡ Some x → AllByRecursion P xs
    → P x
all_at P [] k x at all = cc
all_at P (y ∷ ys) zero x at all = subst P (same_Some y x at) all.0
all_at P (y ∷ ys) (suc k) x at all = all_at P ys k x at all.1

-- where two lists read as one, so do their elements at a position
pub same_at : {A B C : Type 0} (f : A → C) (g : B → C) (xs : List A) (ys : List B) (k : ℕ) (x : A) (y : B)
    → map f xs ≡ map g ys → slice_get xs k ≡ Some x → slice_get ys k ≡ Some y → f x ≡ g y
same_at f g xs ys k x y same at also =
    same_Some (f x) (g y) (sym (slice_get-map f xs k ∙ ap (option_map f) at) ∙ (ap (λ zs. slice_get zs k) same
    ∙ (slice_get-map g ys k ∙ ap (option_map g) also)))

pub same_read : {A B C : Type 0} (f : A → C) (g : B → C) (xs : List A) (ys : List B) (k : ℕ) (x : A) (y : B)
    → map f xs ≡ map g ys → k < length ys → x ≡ get_or xs k x → y ≡ get_or ys k y → f x ≡ g y
same_read f g xs ys k x y same within at also =
    let long : length ys ≡ length xs = sym (simp length-map at (ap length same)) in
    same_at f g xs ys k x y same (slice_get_read xs (length ys) k x long within at)
    (slice_get_read ys (length ys) k y refl within also)

-- what is left of a list from the place of an element on
pub drop_at : {T : Type 0} (xs : List T) (i : ℕ) (x : T) → slice_get xs i ≡ Some x → drop i xs ≡ x ∷ drop (i + 1) xs
drop_at xs i x at =
    drop-cons xs i x (slice_get_within xs i x at)
    ∙ (ap (λ y. y ∷ drop (suc i) xs) (get_or_from_slice_get xs i x x at) ∙ rw add-one)
