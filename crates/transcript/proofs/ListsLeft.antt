-- What a loop makes of the elements of a list one behind another, and what holds of those that are left.
use Rattle.std.proofs.Common.{◌≡◌, ℕ, ◌+◌, ◌<◌, List, ◌++◌, length, drop, get_or, sym, subst, ap, ◌∙◌}
use Rattle.std.specs.List.{AllByRecursion, flat_map}
use Rattle.std.proofs.lemmas.List.{append_assoc, drop_more}

-- what is made of the next element stands before what is made of those behind it
pub made_more : {X A : Type 0} (f : X → List A) (xs : List X) (i : ℕ) (x : X) (made : List A) → i < length xs
    → (made ++ f (get_or xs i x)) ++ flat_map f (drop (i + 1) xs) ≡ made ++ flat_map f (drop i xs)
made_more f xs i x made within =
    append_assoc made (f (get_or xs i x)) (flat_map f (drop (i + 1) xs))
    ∙ ap (λ rest. made ++ flat_map f rest) (sym (drop_more xs i x within))

-- what holds of all that are left holds of the next one and of those behind it
pub all_left : {X : Type 0} (P : X → Type 0) (xs : List X) (i : ℕ) (x : X) → i < length xs
    → AllByRecursion P (drop i xs) → P (get_or xs i x) × AllByRecursion P (drop (i + 1) xs)
all_left P xs i x within all = subst (AllByRecursion P) (drop_more xs i x within) all
