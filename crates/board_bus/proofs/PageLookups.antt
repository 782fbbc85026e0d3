-- Looking addresses up on pages.
use Rattle.std.proofs.Common.{◌≡◌, ℕ, ◌+◌, ◌-◌, ◌*◌, ◌/◌, ◌%◌, ◌<◌, ◌≤◌, ◌≢◌, ◌⊎◌, inl, inr, suc, zero, cond, eqb, List}
use Rattle.std.proofs.Common.{[], ◌∷◌, ◌++◌, length, map, get_or, set, Option, Some, None, refl, sym, ap, ◌∙◌, arith}
use Rattle.std.proofs.Common.{true, false}
use Rattle.std.specs.Ordering.{nat_cmp}
use Rattle.std.specs.FinMap.Entries.{find}
use Rattle.std.specs.Option.{option_or}
use Rattle.std.specs.List.{All, flat_map, insert}
use Rattle.std.proofs.Math.ListN.{get_or-map}
use Rattle.std.proofs.Math.Nat.{mod-lt}
use Rattle.std.proofs.lemmas.List.{length-map}
use Rattle.std.proofs.lemmas.Nat.{div-add-mod'}
use Rattle.std.proofs.lemmas.Bool.{cases_order}
use Rattle.std.proofs.lemmas.Bool.Decides.{nat_tests}
use Rattle.std.proofs.lemmas.List.Elements.{All-head, All-tail}
use Rattle.board_bus.specs.declared.kind.RangeKind.{RangeKind}
use Rattle.board_bus.specs.declared.page.Page.{Page}
use Rattle.board_bus.specs.Cells.{Cell}
use Rattle.board_bus.specs.declared.page.AddressKind.TheVariants.{Absent}
use Rattle.board_bus.specs.Pages.{kind_of, entry_of, entries_from, page_cells, IsFull}
use Rattle.board_bus.proofs.Lookups.{find-here, find-past, find-append, head-or-later, apart-from_head}

-- the cell of a kind, where there is one, and a word
abbrev pub cell_of : Option RangeKind → ℕ → Option Cell
cell_of None word = None
cell_of (Some kind) word = Some (record { kind = kind; word = word })

-- an entry at another address is passed over; at its own it is found
find-entry_past : (a base : ℕ) (kind : Option RangeKind) (word : ℕ) (rest : List (ℕ × Cell)) → (a < base) ⊎ (base < a)
    → find nat_cmp a (entry_of base kind word ++ rest) ≡ find nat_cmp a rest
find-entry_past a base None word rest apart = refl
find-entry_past a base (Some kind) word rest apart = find-past a base (record { kind = kind; word = word }) rest apart

find-entry_here : (a base : ℕ) (kind : Option RangeKind) (word : ℕ) (rest : List (ℕ × Cell)) → a ≡ base
    → find nat_cmp a rest ≡ None → find nat_cmp a (entry_of base kind word ++ rest) ≡ cell_of kind word
find-entry_here a base None word rest here none = none
find-entry_here a base (Some kind) word rest here none =
    find-here a base (record { kind = kind; word = word }) rest here

-- entries in a row: outside them nothing is found, and within them the word at the place
find-entries_outside : (a base : ℕ) (kinds : List (Option RangeKind)) (words : List ℕ)
    → (a < base) ⊎ (base + length kinds ≤ a) → find nat_cmp a (entries_from base kinds words) ≡ None
find-entries_outside a base [] words h = refl
find-entries_outside a base (k ∷ ks) [] h = refl
find-entries_outside a base (k ∷ ks) (w ∷ ws) h =
    let apart : ((a < base) ⊎ (base < a)) × ((a < base + 1) ⊎ (base + 1 + length ks ≤ a)) =
    apart-from_head a base (length ks) h in
    find-entry_past a base k w (entries_from (base + 1) ks ws) apart.0 ∙ find-entries_outside a (base + 1) ks ws apart.1

cell-first : (k : Option RangeKind) (ks : List (Option RangeKind)) (w : ℕ) (ws : List ℕ) (a base : ℕ) → a ≡ base
    → cell_of (get_or (k ∷ ks) (a - base) None) (get_or (w ∷ ws) (a - base) 0) ≡ cell_of k w
cell-first k ks w ws a base h = let e : a - base ≡ 0 = omega arith in
    ap (λ n. cell_of (get_or (k ∷ ks) n None) (get_or (w ∷ ws) n 0)) e

cell-later : (k : Option RangeKind) (ks : List (Option RangeKind)) (w : ℕ) (ws : List ℕ) (a base : ℕ) → base < a
    → cell_of (get_or (k ∷ ks) (a - base) None) (get_or (w ∷ ws) (a - base) 0)
    ≡ cell_of (get_or ks (a - (base + 1)) None) (get_or ws (a - (base + 1)) 0)
cell-later k ks w ws a base h = let e : a - base ≡ suc (a - (base + 1)) = omega arith in
    ap (λ n. cell_of (get_or (k ∷ ks) n None) (get_or (w ∷ ws) n 0)) e

find-entries_within : (a base : ℕ) (kinds : List (Option RangeKind)) (words : List ℕ) → length kinds ≤ length words
    → base ≤ a → a < base + length kinds
    → find nat_cmp a (entries_from base kinds words)
    ≡ cell_of (get_or kinds (a - base) None) (get_or words (a - base) 0)
find-entries_within a base [] words fits low high = absurd (omega arith)
find-entries_within a base (k ∷ ks) [] fits low high = absurd (omega (arith, fits))
find-entries_within a base (k ∷ ks) (w ∷ ws) fits low high =
    elim (head-or-later a base (length ks) low high) [
      | inl here ↦ find-entry_here a base k w (entries_from (base + 1) ks ws) here
          (find-entries_outside a (base + 1) ks ws (inl (omega (arith, here))))
          ∙ sym (cell-first k ks w ws a base here)
      | inr later ↦ find-entry_past a base k w (entries_from (base + 1) ks ws) (inr later.0)
          ∙ find-entries_within a (base + 1) ks ws (omega (arith, fits)) later.1 later.2
          ∙ sym (cell-later k ks w ws a base later.0)
    ]

-- the cell that a page has at an address
abbrev pub cell_in : Page → ℕ → Option Cell
cell_in page address =
    cond (eqb page.number (address / 256))
    (cell_of (kind_of (get_or page.kinds.items (address % 256) Absent)) (get_or page.words.items (address % 256) 0))
    None

pub cell_in-there : (page : Page) (a : ℕ) → page.number ≡ a / 256
    → cell_in page a
    ≡ cell_of (kind_of (get_or page.kinds.items (a % 256) Absent)) (get_or page.words.items (a % 256) 0)
cell_in-there page a h = let test : eqb page.number (a / 256) ≡ true = grind (arith, nat_tests) in
    ap (λ t. cond t
    (cell_of (kind_of (get_or page.kinds.items (a % 256) Absent)) (get_or page.words.items (a % 256) 0)) None) test

pub cell_in-apart : (page : Page) (a : ℕ) → page.number ≢ a / 256 → cell_in page a ≡ None
cell_in-apart page a h = let test : eqb page.number (a / 256) ≡ false = grind (arith, nat_tests) in
    ap (λ t. cond t
    (cell_of (kind_of (get_or page.kinds.items (a % 256) Absent)) (get_or page.words.items (a % 256) 0)) None) test

-- an address is its page's first one and its place on the page
pub record Split (a : ℕ) : Type 0 where
  pub sum : a / 256 * 256 + a % 256 ≡ a
  pub below : a % 256 < 256

pub split : (a : ℕ) → Split a
split a = record { sum = div-add-mod' a 256; below = mod-lt a (omega arith) }

find-page : (page : Page) (a : ℕ) → IsFull page → find nat_cmp a (page_cells page) ≡ cell_in page a
find-page page a full =
    let s = split a in
    let kinds = map kind_of page.kinds.items in
    let size : length kinds ≡ 256 = length-map page.kinds.items kind_of ∙ full.kinds in
    elim (cases_order page.number (a / 256)) [
      | inl same ↦
          let offset : a - page.number * 256 ≡ a % 256 = omega (arith, s.sum, s.below, same) in
          find-entries_within a (page.number * 256) kinds page.words.items (omega (arith, full.words, size))
          (omega (arith, s.sum, s.below, same)) (omega (arith, s.sum, s.below, same, size))
          ∙ ap (λ n. cell_of (get_or kinds n None) (get_or page.words.items n 0)) offset
          ∙ ap (λ (kind : Option RangeKind). cell_of kind (get_or page.words.items (a % 256) 0))
          (get_or-map kind_of page.kinds.items (a % 256) Absent)
          ∙ sym (cell_in-there page a same)
      | inr (inl less) ↦ find-entries_outside a (page.number * 256) kinds page.words.items
          (inr (omega (arith, s.sum, s.below, less, size)))
          ∙ sym (cell_in-apart page a (λ same. omega (arith, same, less)))
      | inr (inr more) ↦ find-entries_outside a (page.number * 256) kinds page.words.items
          (inl (omega (arith, s.sum, s.below, more)))
          ∙ sym (cell_in-apart page a (λ same. omega (arith, same, more)))
    ]

-- the cell that some of the pages have at an address
abbrev pub cell_among : ℕ → List Page → Option Cell
cell_among a [] = None
cell_among a (page ∷ pages) = option_or (cell_in page a) (cell_among a pages)

pub find-pages : (pages : List Page) (a : ℕ) → All IsFull pages
    → find nat_cmp a (flat_map page_cells pages) ≡ cell_among a pages
find-pages [] a full = refl
find-pages (p ∷ ps) a full =
    find-append a (page_cells p) (flat_map page_cells ps)
    ∙ (λ i. option_or (find-page p a (All-head IsFull p ps full) i) (find-pages ps a (All-tail IsFull p ps full) i))

-- no page has the number
pub record HasNone (pages : List Page) (number : ℕ) : Type 0 where
  pub others : (k : ℕ) (d : Page) → k < length pages → (get_or pages k d).number ≢ number

HasNone-tail : (p : Page) (ps : List Page) (n : ℕ) → HasNone (p ∷ ps) n → HasNone ps n
HasNone-tail p ps n h = record { others = λ k d within. h.others (suc k) d (omega (arith, within)) }

pub among-none : (pages : List Page) (a : ℕ) → HasNone pages (a / 256) → cell_among a pages ≡ None
among-none [] a h = refl
among-none (p ∷ ps) a h =
    (λ i. option_or (cell_in-apart p a (h.others 0 p (omega arith)) i)
    (among-none ps a (HasNone-tail p ps (a / 256) h) i))

-- one page alone has the number
pub record IsOnly (pages : List Page) (number at : ℕ) : Type 0 where
  pub within : at < length pages
  pub here : (d : Page) → (get_or pages at d).number ≡ number
  pub others : (k : ℕ) (d : Page) → (k < at) ⊎ (at < k) → k < length pages → (get_or pages k d).number ≢ number

IsOnly-tail : (p : Page) (ps : List Page) (n at : ℕ) → IsOnly (p ∷ ps) n (suc at) → IsOnly ps n at
IsOnly-tail p ps n at h = record {
  within = omega (arith, h.within);
  here = h.here;
  others = λ k d apart within. h.others (suc k) d (grind arith) (omega (arith, within));
}

IsOnly-rest : (p : Page) (ps : List Page) (n : ℕ) → IsOnly (p ∷ ps) n 0 → HasNone ps n
IsOnly-rest p ps n h = record { others = λ k d within. h.others (suc k) d (inr (omega arith)) (omega (arith, within)) }

or-none : (cell : Option Cell) → option_or cell None ≡ cell
or-none None = refl
or-none (Some cell) = refl

pub among-only : (pages : List Page) (a at : ℕ) (d : Page) → IsOnly pages (a / 256) at
    → cell_among a pages ≡ cell_in (get_or pages at d) a
among-only [] a at d h = absurd (omega (arith, h.within))
among-only (p ∷ ps) a zero d h =
    ap (option_or (cell_in p a)) (among-none ps a (IsOnly-rest p ps (a / 256) h)) ∙ or-none (cell_in p a)
among-only (p ∷ ps) a (suc at) d h =
    ap (λ (cell : Option Cell). option_or cell (cell_among a ps))
    (cell_in-apart p a (h.others 0 p (inl (omega arith)) (omega arith)))
    ∙ among-only ps a at d (IsOnly-tail p ps (a / 256) at h)

-- the page is exchanged for another of its number
pub among-set_here : (pages : List Page) (a at : ℕ) (changed : Page) → IsOnly pages (a / 256) at
    → cell_among a (set pages at changed) ≡ cell_in changed a
among-set_here [] a at changed h = absurd (omega (arith, h.within))
among-set_here (p ∷ ps) a zero changed h =
    ap (option_or (cell_in changed a)) (among-none ps a (IsOnly-rest p ps (a / 256) h)) ∙ or-none (cell_in changed a)
among-set_here (p ∷ ps) a (suc at) changed h =
    ap (λ (cell : Option Cell). option_or cell (cell_among a (set ps at changed)))
    (cell_in-apart p a (h.others 0 p (inl (omega arith)) (omega arith)))
    ∙ among-set_here ps a at changed (IsOnly-tail p ps (a / 256) at h)

pub among-set_apart : (pages : List Page) (q at : ℕ) (changed : Page)
    → ((d : Page) → (get_or pages at d).number ≢ q / 256) → changed.number ≢ q / 256
    → cell_among q (set pages at changed) ≡ cell_among q pages
among-set_apart [] q at changed old new = refl
among-set_apart (p ∷ ps) q zero changed old new =
    ap (λ (cell : Option Cell). option_or cell (cell_among q ps))
    (cell_in-apart changed q new ∙ sym (cell_in-apart p q (old p)))
among-set_apart (p ∷ ps) q (suc at) changed old new =
    ap (option_or (cell_in p q)) (among-set_apart ps q at changed old new)

-- a page without cells is put among them
pub among-insert : (pages : List Page) (q at : ℕ) (blank : Page) → cell_in blank q ≡ None
    → cell_among q (insert pages at blank) ≡ cell_among q pages
among-insert pages q zero blank none = ap (λ (cell : Option Cell). option_or cell (cell_among q pages)) none
among-insert [] q (suc at) blank none = ap (λ (cell : Option Cell). option_or cell None) none
among-insert (p ∷ ps) q (suc at) blank none = ap (option_or (cell_in p q)) (among-insert ps q at blank none)
