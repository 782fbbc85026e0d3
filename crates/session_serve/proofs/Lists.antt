-- Connections that come and go, one more.
use Rattle.std.proofs.Common.{◌≡◌, ◌∙◌, ℕ, List, [], ◌∷◌, ◌++◌, map, length, Option, Some, None, option_map, refl}
use Rattle.std.proofs.Common.{sym, ap}
use Rattle.std.proofs.Common.{subst, suc, zero, arith, append_assoc, append-nil}
use Rattle.std.specs.List.{AllByRecursion, AllZip, slice_get}
use Rattle.std.proofs.lemmas.Option.{none-some}
use Rattle.ipb_outside.specs.Pairs.{Came, Went}

pub came_none : {C : Type 0} (old : Option (List C)) → Came old old []
came_none None = refl
came_none (Some xs) = refl

pub came_more : {C : Type 0} (old mid new : Option (List C)) (xs : List C) (x : C) → Came old mid xs
    → mid ≡ option_map (λ (rest : List C). x ∷ rest) new → Came old new (xs ++ x ∷ [])
came_more {C = C} old mid None xs x a b = a ∙ ap (λ (o : Option (List C)). option_map (λ (rest : List C). xs ++ rest)
    o) b
came_more {C = C} old mid (Some ys) xs x a b =
    a ∙ ap (λ (o : Option (List C)). option_map (λ (rest : List C). xs ++ rest) o) b
    ∙ ap Some (sym (append_assoc xs (x ∷ []) ys))

pub went_none : {C : Type 0} (old : Option (List C)) → Went old old []
went_none None = refl
went_none (Some xs) = ap Some (sym (append-nil xs))

pub went_more : {C : Type 0} (old mid new : Option (List C)) (xs : List C) (x : C) → Went old mid xs
    → new ≡ option_map (λ (before : List C). before ++ x ∷ []) mid → Went old new (xs ++ x ∷ [])
went_more {C = C} None mid new xs x a b =
    b ∙ ap (λ (o : Option (List C)). option_map (λ (before : List C). before ++ x ∷ []) o) a
went_more {C = C} (Some ys) mid new xs x a b =
    b ∙ ap (λ (o : Option (List C)). option_map (λ (before : List C). before ++ x ∷ []) o) a
    ∙ ap Some (append_assoc ys xs (x ∷ []))

-- ---- lists

pub all_map : {A B : Type 0} (f : A → B) (P : B → Type 0) (xs : List A) → ((x : A) → P (f x))
    → AllByRecursion P (map f xs)
all_map f P [] holds = tt
all_map f P (x ∷ xs) holds = (holds x, all_map f P xs holds)

-- an item of a list stands at the same place in another as long
pub there : {A B : Type 0} (xs : List A) (ys : List B) (i : ℕ) (x : A) → length ys ≡ length xs
    → slice_get xs i ≡ Some x → (y : B) × (slice_get ys i ≡ Some y)
there [] ys i x long e = absurd (none-some x e)
there (a ∷ xs) [] i x long e = absurd cc
there (a ∷ xs) (b ∷ ys) zero x long e = (b, refl)
there (a ∷ xs) (b ∷ ys) (suc i) x long e = there xs ys i x (omega (arith, long)) e

pub all_middle : {A : Type 0} (P : A → Type 0) (xs : List A) (x : A) (ys zs : List A) → AllByRecursion P zs
    → xs ++ x ∷ ys ≡ zs → P x
all_middle P [] x ys zs a e = (subst (AllByRecursion P) (sym e) a).0
all_middle P (w ∷ ws) x ys [] a e = absurd cc
all_middle P (w ∷ ws) x ys (z ∷ zs) a e = let rest : ws ++ x ∷ ys ≡ zs = cc in all_middle P ws x ys zs a.1 rest

-- where none is left, those so far are all
pub all_so_far : {A : Type 0} (some rest all : List A) → length rest ≡ 0 → some ++ rest ≡ all → some ≡ all
all_so_far some [] all none is = sym (append-nil some) ∙ is
all_so_far some (x ∷ rest) all none is = absurd (omega (arith, none))

pub zip_push : {A B : Type 0} (P : A → B → Type 0) (xs : List A) (ys : List B) (x : A) (y : B) → AllZip P xs ys → P x y
    → AllZip P (xs ++ x ∷ []) (ys ++ y ∷ [])
zip_push P [] [] x y all p = (p, tt)
zip_push P [] (b ∷ ys) x y all p = absurd all
zip_push P (a ∷ xs) [] x y all p = absurd all
zip_push P (a ∷ xs) (b ∷ ys) x y all p = (all.0, zip_push P xs ys x y all.1 p)

pub zip_long : {A B : Type 0} (P : A → B → Type 0) (xs : List A) (ys : List B) → AllZip P xs ys → length ys ≡ length xs
zip_long P [] [] all = refl
zip_long P [] (b ∷ ys) all = absurd all
zip_long P (a ∷ xs) [] all = absurd all
zip_long P (a ∷ xs) (b ∷ ys) all = ap suc (zip_long P xs ys all.1)
