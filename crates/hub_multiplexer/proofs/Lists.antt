-- Lists that a loop goes over by index.
use Rattle.std.proofs.Common.{◌≡◌, ℕ, ◌+◌, ◌<◌, zero, suc, List, [], ◌∷◌, ◌++◌, map, take, drop, length, get_or, set}
use Rattle.std.proofs.Common.{refl, sym, ap, ◌∙◌, arith, add-one}
use mathlib.Core.Option.{some}
use lib.ListN.{get_elem?}
use Rattle.std.proofs.lemmas.List.Edits.{map_over_more}

-- the element that the loop stands at is not written over yet
pub not_yet_mapped : {A : Type 0} (f : A → A) (xs : List A) (i : ℕ) (d : A)
    → get_or (map f (take i xs) ++ drop i xs) i d ≡ get_or xs i d
not_yet_mapped f [] zero d = refl
not_yet_mapped f [] (suc i) d = refl
not_yet_mapped f (x ∷ xs) zero d = refl
not_yet_mapped f (x ∷ xs) (suc i) d = not_yet_mapped f xs i d

map_take_more : {A B : Type 0} (g : A → B) (xs : List A) (i : ℕ) (d : A) → i < length xs
    → map g (take (suc i) xs) ≡ map g (take i xs) ++ g (get_or xs i d) ∷ []
map_take_more g [] i d h = absurd (omega arith)
map_take_more g (x ∷ xs) zero d h = refl
map_take_more g (x ∷ xs) (suc i) d h = ap (λ l. g x ∷ l) (map_take_more g xs i d (omega arith))

-- a loop that writes f x over each element x, and pushes g x
pub mapped_and_pushed : {A B : Type 0} (f : A → A) (g : A → B) (xs ys : List A) (zs ws : List B) (i : ℕ) (x x' : A)
    (y : B) → ys ≡ map f (take i xs) ++ drop i xs → zs ≡ map g (take i xs)
    → i < length xs → x ≡ get_or ys i x → x' ≡ f x → y ≡ g x → ws ≡ zs ++ y ∷ []
    → (set ys i x' ≡ map f (take (i + 1) xs) ++ drop (i + 1) xs) × (ws ≡ map g (take (i + 1) xs))
mapped_and_pushed f g xs ys zs ws i x x' y written pushed inside read f_is g_is now =
    let here : x ≡ get_or xs i x = read ∙ (ap (λ l. get_or l i x) written ∙ not_yet_mapped f xs i x) in (
      ap (set ys i) f_is ∙ map_over_more f xs ys i x inside written read,
      now ∙ ((λ j. pushed j ++ g_is j ∷ []) ∙ ((λ j. map g (take i xs) ++ g (here j) ∷ [])
          ∙ (sym (map_take_more g xs i x inside) ∙ ap (λ n. map g (take n xs)) (sym (add-one i))))),
    )

-- what is left after the last of them was popped, and the one that was popped
pub popped : {A : Type 0} (all left : List A) (x : A) → left ++ x ∷ [] ≡ take (length (left ++ x ∷ [])) all
    → (left ≡ take (length left) all) × (get_elem? all (length left) ≡ some x)
popped [] [] x e = cc
popped [] (y ∷ ys) x e = cc
popped (z ∷ zs) [] x e = (refl, ap some (sym (first_same x z [] [] e)))
  where
    first_same : {A : Type 0} (a b : A) (as' bs : List A) → a ∷ as' ≡ b ∷ bs → a ≡ b
    first_same a b as' bs e = cc
popped (z ∷ zs) (y ∷ ys) x e = let t = popped zs ys x (rest_same y z (ys ++ x ∷ []) (take (length (ys ++ x ∷ [])) zs) e)
    in ((λ i. first_same y z (ys ++ x ∷ []) (take (length (ys ++ x ∷ [])) zs) e i ∷ t.0 i), t.1)
  where
    first_same : {A : Type 0} (a b : A) (as' bs : List A) → a ∷ as' ≡ b ∷ bs → a ≡ b
    first_same a b as' bs e = cc

    rest_same : {A : Type 0} (a b : A) (as' bs : List A) → a ∷ as' ≡ b ∷ bs → as' ≡ bs
    rest_same a b as' bs e = cc
