-- Bodies that stand by place.
use Rattle.std.proofs.Common.{◌≡◌, ℕ, suc, ◌+◌, ◌<◌, List, [], ◌∷◌, length, refl, ap, ◌∙◌}
use Rattle.std.proofs.Common.{arith}
use Rattle.std.specs.Prelude.{nat_le}
use Rattle.std.specs.List.{AllByRecursion}
use Rattle.std.proofs.lemmas.Bool.Decides.{nat_tests}
use Rattle.world_model.proofs.Lists.{either}
use Rattle.lane_record.specs.Lists.{CountsFrom}
use Rattle.board_history.specs.Order.{Placed, insert, by_place, places_of}

abbrev pub IsAbove : ℕ → Placed → Type 0
IsAbove k p = k < p.place

abbrev pub AreAbove : ℕ → List Placed → Type 0
AreAbove k ps = AllByRecursion (IsAbove k) ps

-- the lowest comes first
pub insert_low : (x : Placed) (ys : List Placed) → AreAbove x.place ys → insert x ys ≡ x ∷ ys
insert_low x [] all = refl
insert_low x (y ∷ ys) all = either (λ (r : List Placed). r ≡ x ∷ (y ∷ ys)) (nat_le x.place y.place) (x ∷ (y ∷ ys))
    (y ∷ insert x ys)
    (λ _. refl)
    (λ e. absurd (grind (arith, nat_tests)))

pub counts_above : (k low : ℕ) (ps : List Placed) → low < k → CountsFrom k (places_of ps) → AreAbove low ps
counts_above k low [] h c = tt
counts_above k low (p ∷ ps) h c = (omega (arith, c.0), counts_above (k + 1) low ps (omega arith) c.1)

-- what counts stands by place
pub sorted_again : (k : ℕ) (ps : List Placed) → CountsFrom k (places_of ps) → by_place ps ≡ ps
sorted_again k [] c = refl
sorted_again k (p ∷ ps) c =
    ap (insert p) (sorted_again (k + 1) ps c.1)
    ∙ insert_low p ps (counts_above (k + 1) p.place ps (omega (arith, c.0)) c.1)

insert_length : (x : Placed) (ys : List Placed) → length (insert x ys) ≡ suc (length ys)
insert_length x [] = refl
insert_length x (y ∷ ys) = either (λ (r : List Placed). length r ≡ suc (length (y ∷ ys))) (nat_le x.place y.place)
    (x ∷ (y ∷ ys)) (y ∷ insert x ys)
    (λ _. refl)
    (λ _. ap suc (insert_length x ys))

pub sorted_length : (ps : List Placed) → length (by_place ps) ≡ length ps
sorted_length [] = refl
sorted_length (p ∷ ps) = insert_length p (by_place ps) ∙ ap suc (sorted_length ps)

-- ---- what holds of each before sorting, and after

pub inserted_all : (P : Placed → Type 0) (x : Placed) (ys : List Placed) → AllByRecursion P (insert x ys)
    → P x × AllByRecursion P ys
inserted_all P x [] = λ all. all
inserted_all P x (y ∷ ys) =
    either (λ (r : List Placed). AllByRecursion P r → P x × AllByRecursion P (y ∷ ys)) (nat_le x.place y.place)
    (x ∷ (y ∷ ys)) (y ∷ insert x ys)
    (λ _ all. all)
    (λ _ all. let later = inserted_all P x ys all.1 in (later.0, (all.0, later.1)))

pub sorted_all : (P : Placed → Type 0) (ps : List Placed) → AllByRecursion P (by_place ps) → AllByRecursion P ps
sorted_all P [] all = tt
sorted_all P (p ∷ ps) all =
    let both = inserted_all P p (by_place ps) all in
    (both.0, sorted_all P ps both.1)

insert_all : (P : Placed → Type 0) (x : Placed) (ys : List Placed) → P x → AllByRecursion P ys
    → AllByRecursion P (insert x ys)
insert_all P x [] p all = (p, tt)
insert_all P x (y ∷ ys) p all = either (AllByRecursion P) (nat_le x.place y.place) (x ∷ (y ∷ ys)) (y ∷ insert x ys)
    (λ _. (p, all)) (λ _. (all.0, insert_all P x ys p all.1))

pub all_sorted : (P : Placed → Type 0) (ps : List Placed) → AllByRecursion P ps → AllByRecursion P (by_place ps)
all_sorted P [] all = tt
all_sorted P (p ∷ ps) all = insert_all P p (by_place ps) all.0 (all_sorted P ps all.1)
