-- Looking addresses up in lists of cells and in words in a row.
use Rattle.std.proofs.Common.{◌≡◌, ℕ, ◌+◌, ◌-◌, ◌^◌, ◌<◌, ◌≤◌, ◌⊎◌, inl, inr, true, false, cond, List, [], ◌∷◌, ◌++◌}
use Rattle.std.proofs.Common.{length, get_or, Option, Some, None, refl, sym, ap, ◌∙◌, arith, suc, ltb, T}
use Rattle.std.specs.Ordering.{nat_cmp, eq_by_cmp}
use Rattle.std.specs.Cmp.{nat_cmp_total}
use Rattle.std.specs.FinMap.{nat_cmp-IsAntisymmetric}
use Rattle.std.specs.FinMap.Entries.{find, is_sorted, find-put, is_sorted-put, same_entries}
use Rattle.std.specs.Option.{option_or}
use Rattle.std.proofs.lemmas.Bool.{lt-ltb}
use Rattle.std.proofs.lemmas.Bool.Decides.{nat_tests}
use Rattle.board_bus.specs.declared.kind.RangeKind.{RangeKind}
use Rattle.board_bus.specs.Cells.{Cell, CellMap, cell_at, cell_map, cells_from}

pub tie_same : (a : ℕ) → eq_by_cmp nat_cmp a a ≡ true
tie_same a = grind (arith, nat_tests)

pub tie_apart : (a b : ℕ) → (a < b) ⊎ (b < a) → eq_by_cmp nat_cmp a b ≡ false
tie_apart a b (inl h) = grind (arith, nat_tests)
tie_apart a b (inr h) = grind (arith, nat_tests)

-- the map of a list of entries is in order, and finds what a scan from the front finds
pub cell_map-in_order : (entries : List (ℕ × Cell)) → T (is_sorted nat_cmp (cell_map entries))
cell_map-in_order [] = tt
cell_map-in_order (e ∷ es) = is_sorted-put nat_cmp nat_cmp_total e.0 e.1 (cell_map es) (cell_map-in_order es)

pub find-cell_map : (a : ℕ) (entries : List (ℕ × Cell)) → find nat_cmp a (cell_map entries) ≡ find nat_cmp a entries
find-cell_map a [] = refl
find-cell_map a (e ∷ es) = find-put nat_cmp nat_cmp_total a e.0 e.1 (cell_map es)
    ∙ ap (cond (eq_by_cmp nat_cmp a e.0) (Some e.1)) (find-cell_map a es)

-- maps that are in order are equal where they find the same
pub same_cells : (xs ys : CellMap) → T (is_sorted nat_cmp xs) → T (is_sorted nat_cmp ys)
    → ((a : ℕ) → find nat_cmp a xs ≡ find nat_cmp a ys) → xs ≡ ys
same_cells xs ys s t h = same_entries nat_cmp nat_cmp_total nat_cmp-IsAntisymmetric xs ys s t h

-- what the front finds is found; what it does not is sought in the rest
pub find-front : (a : ℕ) (xs ys : List (ℕ × Cell)) (cell : Cell) → find nat_cmp a xs ≡ Some cell
    → find nat_cmp a (xs ++ ys) ≡ Some cell
find-front a [] ys cell h = cc
find-front a (x ∷ xs) ys cell h =
    elim (eq_by_cmp nat_cmp a x.0) as (λ b. cond b (Some x.1) (find nat_cmp a xs) ≡ Some cell
    → cond b (Some x.1) (find nat_cmp a (xs ++ ys)) ≡ Some cell) [
      | true ↦ λ is. is
      | false ↦ λ is. find-front a xs ys cell is
    ] h

pub find-rest : (a : ℕ) (xs ys : List (ℕ × Cell)) → find nat_cmp a xs ≡ None
    → find nat_cmp a (xs ++ ys) ≡ find nat_cmp a ys
find-rest a [] ys h = refl
find-rest a (x ∷ xs) ys h =
    elim (eq_by_cmp nat_cmp a x.0) as (λ b. cond b (Some x.1) (find nat_cmp a xs) ≡ None
    → cond b (Some x.1) (find nat_cmp a (xs ++ ys)) ≡ find nat_cmp a ys) [
      | true ↦ λ is. cc
      | false ↦ λ is. find-rest a xs ys is
    ] h

-- at the head of a list of entries, and past it
pub find-here : (a b : ℕ) (cell : Cell) (rest : List (ℕ × Cell)) → a ≡ b → find nat_cmp a ((b, cell) ∷ rest) ≡ Some cell
find-here a b cell rest h = let tie : eq_by_cmp nat_cmp a b ≡ true = grind (arith, nat_tests) in
    ap (λ t. cond t (Some cell) (find nat_cmp a rest)) tie

pub find-past : (a b : ℕ) (cell : Cell) (rest : List (ℕ × Cell)) → (a < b) ⊎ (b < a)
    → find nat_cmp a ((b, cell) ∷ rest) ≡ find nat_cmp a rest
find-past a b cell rest h = ap (λ t. cond t (Some cell) (find nat_cmp a rest)) (tie_apart a b h)

pub head-or-later : (a base n : ℕ) → base ≤ a → a < base + suc n
    → (a ≡ base) ⊎ ((base < a) × (base + 1 ≤ a) × (a < base + 1 + n))
head-or-later a base n low high = grind arith

get_or-later : (w : ℕ) (ws : List ℕ) (a base : ℕ) → base < a
    → get_or (w ∷ ws) (a - base) 0 ≡ get_or ws (a - (base + 1)) 0
get_or-later w ws a base h = let e : a - base ≡ suc (a - (base + 1)) = omega arith in ap (λ n. get_or (w ∷ ws) n 0) e

get_or-first : (w : ℕ) (ws : List ℕ) (a base : ℕ) → a ≡ base → get_or (w ∷ ws) (a - base) 0 ≡ w
get_or-first w ws a base h = let e : a - base ≡ 0 = omega arith in ap (λ n. get_or (w ∷ ws) n 0) e

-- the cell at an address within a row of words
pub find-within : (a base : ℕ) (kind : RangeKind) (words : List ℕ) → base ≤ a → a < base + length words
    → find nat_cmp a (cells_from base kind words) ≡ Some (record { kind = kind; word = get_or words (a - base) 0 })
find-within a base kind [] low high = absurd (omega arith)
find-within a base kind (w ∷ ws) low high =
    let place : ℕ → Option Cell = λ n. Some (record { kind = kind; word = n }) in
    elim (head-or-later a base (length ws) low high) [
      | inl here ↦ find-here a base _ _ here ∙ ap place (sym (get_or-first w ws a base here))
      | inr later ↦ find-past a base _ _ (inr later.0) ∙ find-within a (base + 1) kind ws later.1 later.2
          ∙ ap place (sym (get_or-later w ws a base later.0))
    ]

pub apart-from_head : (a base n : ℕ) → (a < base) ⊎ (base + suc n ≤ a)
    → ((a < base) ⊎ (base < a)) × ((a < base + 1) ⊎ (base + 1 + n ≤ a))
apart-from_head a base n (inl h) = (inl h, inl (omega arith))
apart-from_head a base n (inr h) = (inr (omega arith), inr (omega arith))

pub find-outside : (a base : ℕ) (kind : RangeKind) (words : List ℕ) → (a < base) ⊎ (base + length words ≤ a)
    → find nat_cmp a (cells_from base kind words) ≡ None
find-outside a base kind [] h = refl
find-outside a base kind (w ∷ ws) h =
    let apart : ((a < base) ⊎ (base < a)) × ((a < base + 1) ⊎ (base + 1 + length ws ≤ a)) =
    apart-from_head a base (length ws) h in
    find-past a base _ _ apart.0 ∙ find-outside a (base + 1) kind ws apart.1

-- what is found in the front, or else in the rest
pub find-append : (a : ℕ) (xs ys : List (ℕ × Cell))
    → find nat_cmp a (xs ++ ys) ≡ option_or (find nat_cmp a xs) (find nat_cmp a ys)
find-append a [] ys = refl
find-append a (x ∷ xs) ys =
    elim (eq_by_cmp nat_cmp a x.0) as (λ b. cond b (Some x.1) (find nat_cmp a (xs ++ ys))
    ≡ option_or (cond b (Some x.1) (find nat_cmp a xs)) (find nat_cmp a ys)) [
      | true ↦ refl
      | false ↦ find-append a xs ys
    ]

pub at_address : (a : ℕ) (cells : CellMap) (cell : Option Cell) → find nat_cmp a cells ≡ cell → a < 2 ^ 32
    → cell_at cells a ≡ cell
at_address a cells cell is below = let test : ltb a (2 ^ 32) ≡ true = lt-ltb a (2 ^ 32) below in
    ap (λ t. cond t (find nat_cmp a cells) None) test ∙ is
