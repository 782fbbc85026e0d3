-- What a search among pages finds, and what a change of a page and a page more do to the cells.
use Rattle.std.proofs.Common.{◌≡◌, ℕ, ◌+◌, ◌-◌, ◌/◌, ◌%◌, ◌<◌, ◌≤◌, ◌≢◌, ◌⊎◌, inl, inr, cond, List, length}
use Rattle.std.proofs.Common.{get_or, get_or-set_other, get_or-set_same, length-set, map, set, replicate, Option, Some}
use Rattle.std.proofs.Common.{None, Result, Ok, Err, sym, ap, ◌∙◌, subst, arith, ◌∷◌}
use Rattle.std.proofs.lemmas.List.{length-map}
use Rattle.std.specs.Prelude.{IfOk, IfErr}
use Rattle.std.specs.Ordering.{nat_cmp, ordering_index, eq_by_cmp}
use Rattle.std.specs.Cmp.{nat_cmp_total}
use Rattle.std.specs.FinMap.Entries.{find, put, find-put, is_sorted-put}
use Rattle.std.specs.List.{All, flat_map, insert}
use Rattle.std.specs.List.Sorted.{IsSearchInRange, IsBinarySearchResult, IsNonDecreasingBy}
use Rattle.std.proofs.Math.Seq.{map-set_same}
use Rattle.std.proofs.lemmas.Bool.{cases_order, cases_lt}
use Rattle.std.proofs.lemmas.Bool.Decides.{nat_tests}
use Rattle.std.proofs.lemmas.Cmp.{ranked}
use Rattle.std.proofs.lemmas.List.{get_or-map, get_or-replicate}
use Rattle.std.proofs.lemmas.List.Edits.{length-insert, get_or-insert_below, get_or-insert_at, get_or-insert_above}
use Rattle.std.proofs.lemmas.List.Elements.{All-cons, All-set}
use Rattle.std.proofs.lemmas.List.Sorted.{All-permutation, IsPermutation-insert}
use Rattle.board_bus.specs.declared.kind.RangeKind.{RangeKind}
use Rattle.board_bus.specs.declared.page.AddressKind.{AddressKind}
use Rattle.board_bus.specs.declared.page.AddressKind.TheVariants.{Absent}
use Rattle.board_bus.specs.declared.page.Page.{Page}
use Rattle.board_bus.specs.Cells.{Cell}
use Rattle.board_bus.specs.Pages.{kind_of, page_cells, cells_of, IsFull, IsRising, IsPaged, IsAt, IsGapFor}
use Rattle.board_bus.proofs.Lookups.{cell_map-in_order, find-cell_map, same_cells, tie_same, tie_apart}
use Rattle.board_bus.proofs.PageLookups.{cell_of, cell_in, cell_in-there, cell_in-apart, cell_among, find-pages, split}
use Rattle.board_bus.proofs.PageLookups.{HasNone, among-none, IsOnly, among-only, among-set_here, among-set_apart}
use Rattle.board_bus.proofs.PageLookups.{among-insert}

-- the number of a page
abbrev pub number_of : Page → ℕ
number_of page = page.number

-- numbers that rise, compared with one of them, rise
rises : (pages : List Page) (n : ℕ) → IsRising pages
    → IsNonDecreasingBy (λ (p : Page). ordering_index (nat_cmp p.number n)) pages
rises pages n up i j d le within =
    let keys : (get_or pages i d).number ≤ (get_or pages j d).number =
    grind (arith, up i j d, λ (same : i ≡ j). ap (λ k. (get_or pages k d).number) same) in
    grind (arith, nat_tests)

-- what the search found
pub record Searched (pages : List Page) (n : ℕ) (r : Result ℕ ℕ) : Type 0 where
  pub found : IfOk r (IsAt pages n)
  pub absent : IfErr r (IsGapFor pages n)

pub searched : (pages : List Page) (n : ℕ) (r : Result ℕ ℕ) → IsRising pages → IsSearchInRange r (length pages)
    → IsBinarySearchResult (λ (p : Page). nat_cmp p.number n) pages r → Searched pages n r
searched pages n (Ok at) up bound equal = record {
  found = record { within = bound; number_is = λ d. ranked _ n _ (sym (equal d)) };
  absent = tt;
}
searched pages n (Err at) up bound parted = record {
  found = tt;
  absent = record {
    within = bound;
    below = λ k d lt. ranked _ n _ (sym ((parted (rises pages n up)).0 k d (omega arith) lt));
    above = λ k d le lt. ranked _ n _ (sym ((parted (rises pages n up)).1 k d le lt));
  };
}

-- a page that was found is the only one of its number
pub only : (pages : List Page) (n at : ℕ) → IsRising pages → IsAt pages n at → IsOnly pages n at
only pages n at up found = record {
  within = found.within;
  here = found.number_is;
  others = λ k d apart within same. elim apart [
    | inl before ↦ let rise = up k at d before found.within in omega (arith, rise, same, found.number_is d)
    | inr after ↦ let rise = up at k d after within in omega (arith, rise, same, found.number_is d)
  ];
}

pub none_in_gap : (pages : List Page) (n at : ℕ) → IsGapFor pages n at → HasNone pages n
none_in_gap pages n at gap = record {
  others = λ k d within same. elim (cases_lt k at) [
    | inl before ↦ let less = gap.below k d before in omega (arith, less, same)
    | inr from ↦ let more = gap.above k d from within in omega (arith, more, same)
  ];
}

-- what the cells of pages find
pub find-cells : (pages : List Page) (a : ℕ) → All IsFull pages → find nat_cmp a (cells_of pages) ≡ cell_among a pages
find-cells pages a full = find-cell_map a (flat_map page_cells pages) ∙ find-pages pages a full

-- lists of pages with the same numbers rise alike
pub rising_alike : (xs ys : List Page) → map number_of xs ≡ map number_of ys → IsRising xs → IsRising ys
rising_alike xs ys same up i j d less within =
    let size : length xs ≡ length ys = sym (length-map xs number_of) ∙ ap length same ∙ length-map ys number_of in
    let at : (k : ℕ) → k < length ys → (get_or ys k d).number ≡ (get_or xs k d).number =
    λ k lt. sym (get_or-map number_of ys k d 0 lt) ∙ sym (ap (λ (ns : List ℕ). get_or ns k 0) same)
    ∙ get_or-map number_of xs k d 0 (omega (arith, size, lt)) in
    omega (arith, at i (omega (arith, less, within)), at j within, up i j d less (omega (arith, size, within)))

-- a page that is the same but for the cell at one of its places
pub record ChangesCell (page changed : Page) (place : ℕ) (kind : RangeKind) (word : ℕ) : Type 0 where
  pub number : changed.number ≡ page.number
  pub held : AddressKind
  pub held_is : kind_of held ≡ Some kind
  pub kinds : changed.kinds.items ≡ set page.kinds.items place held
  pub words : changed.words.items ≡ set page.words.items place word

changed_full : (page changed : Page) (place : ℕ) (kind : RangeKind) (word : ℕ)
    → ChangesCell page changed place kind word → IsFull page → IsFull changed
changed_full page changed place kind word change full = record {
  words = ap length change.words ∙ length-set page.words.items place word ∙ full.words;
  kinds = ap length change.kinds ∙ length-set page.kinds.items place change.held ∙ full.kinds;
}

module _ (pages : List Page) (a at : ℕ) (changed : Page) (kind : RangeKind) (word : ℕ) (paged : IsPaged pages)
    (found : IsAt pages (a / 256) at) (d : Page)
    (change : ChangesCell (get_or pages at d) changed (a % 256) kind word) where
  one : IsOnly pages (a / 256) at
  one = only pages (a / 256) at paged.rising found

  old_full : IsFull (get_or pages at d)
  old_full = paged.full at d found.within

  new_number : changed.number ≡ a / 256
  new_number = change.number ∙ found.number_is d

  pub set_paged : IsPaged (set pages at changed)
  set_paged = record {
    rising = rising_alike pages (set pages at changed) (sym (map-set_same number_of pages at changed d change.number))
        paged.rising;
    full = All-set IsFull pages at changed
        (changed_full (get_or pages at d) changed (a % 256) kind word change old_full)
        paged.full;
  }

  abbrev pub cell : Cell
  cell = record { kind = kind; word = word }

  here-after : cell_among a (set pages at changed) ≡ Some cell
  here-after = let s = split a in
      among-set_here pages a at changed one ∙ cell_in-there changed a new_number
      ∙ (λ i. cell_of (kind_of (get_or (change.kinds i) (a % 256) Absent)) (get_or (change.words i) (a % 256) 0))
      ∙ (λ i. cell_of
      (kind_of (get_or-set_same (get_or pages at d).kinds.items (a % 256) change.held Absent
      (omega (arith, s.below, old_full.kinds)) i))
      (get_or-set_same (get_or pages at d).words.items (a % 256) word 0 (omega (arith, s.below, old_full.words)) i))
      ∙ ap (λ (k : Option RangeKind). cell_of k word) change.held_is

  -- another address of the page, and one of another page
  near-after : (q : ℕ) → q / 256 ≡ a / 256 → q % 256 ≢ a % 256
      → cell_among q (set pages at changed) ≡ cell_among q pages
  near-after q same apart =
      let one_q : IsOnly pages (q / 256) at = subst (λ (n : ℕ). IsOnly pages n at) (sym same) one in
      among-set_here pages q at changed one_q ∙ cell_in-there changed q (new_number ∙ sym same)
      ∙ (λ i. cell_of (kind_of (get_or (change.kinds i) (q % 256) Absent)) (get_or (change.words i) (q % 256) 0))
      ∙ (λ i. cell_of
      (kind_of (get_or-set_other (get_or pages at d).kinds.items (a % 256) (q % 256) change.held Absent apart i))
      (get_or-set_other (get_or pages at d).words.items (a % 256) (q % 256) word 0 apart i))
      ∙ sym (among-only pages q at d one_q ∙ cell_in-there (get_or pages at d) q (found.number_is d ∙ sym same))

  far-after : (q : ℕ) → q / 256 ≢ a / 256 → cell_among q (set pages at changed) ≡ cell_among q pages
  far-after q apart =
      among-set_apart pages q at changed (λ e same. apart (sym (sym (found.number_is e) ∙ same)))
      (λ same. apart (sym (sym new_number ∙ same)))

  elsewhere-after : (q : ℕ) → (q < a) ⊎ (a < q) → cell_among q (set pages at changed) ≡ cell_among q pages
  elsewhere-after q apart =
      let s = split a in
      let t = split q in
      elim (cases_order (q / 256) (a / 256)) [
        | inl same ↦ near-after q same (λ place. elim apart [
          | inl less ↦ omega (arith, s.sum, t.sum, same, place, less)
          | inr more ↦ omega (arith, s.sum, t.sum, same, place, more)
        ])
        | inr (inl less) ↦ far-after q (λ same. omega (arith, same, less))
        | inr (inr more) ↦ far-after q (λ same. omega (arith, same, more))
      ]

  -- to change a cell where it stands is to put it
  pub set_puts : cells_of (set pages at changed) ≡ put nat_cmp a cell (cells_of pages)
  set_puts =
      let order = cell_map-in_order (flat_map page_cells pages) in
      let put_is : (q : ℕ) → find nat_cmp q (put nat_cmp a cell (cells_of pages))
      ≡ cond (eq_by_cmp nat_cmp q a) (Some cell) (find nat_cmp q (cells_of pages)) =
      λ q. find-put nat_cmp nat_cmp_total q a cell (cells_of pages) in
      same_cells _ _ (cell_map-in_order (flat_map page_cells (set pages at changed)))
      (is_sorted-put nat_cmp nat_cmp_total a cell (cells_of pages) order) (λ q.
      find-cells (set pages at changed) q set_paged.full ∙ elim (cases_order q a) [
        | inl same ↦ subst (λ (x : ℕ). cell_among x (set pages at changed)
            ≡ find nat_cmp x (put nat_cmp a cell (cells_of pages))) (sym same)
            (here-after ∙ sym (put_is a ∙ ap (λ t. cond t (Some cell) (find nat_cmp a (cells_of pages))) (tie_same a)))
        | inr apart ↦ elsewhere-after q apart ∙ sym (find-cells pages q paged.full)
            ∙ sym (put_is q
            ∙ ap (λ t. cond t (Some cell) (find nat_cmp q (cells_of pages))) (tie_apart q a apart))
      ])

-- a blank page in its gap
module _ (pages : List Page) (n at : ℕ) (blank : Page) (paged : IsPaged pages) (gap : IsGapFor pages n at)
    (is : blank.number ≡ n) (full : IsFull blank) (absent : blank.kinds.items ≡ replicate 256 Absent) where
  blank_cell : (q : ℕ) → cell_in blank q ≡ None
  blank_cell q =
      let s = split q in
      elim (cases_order blank.number (q / 256)) [
        | inl same ↦ cell_in-there blank q same
            ∙ ap (λ (kinds : List AddressKind).
            cell_of (kind_of (get_or kinds (q % 256) Absent)) (get_or blank.words.items (q % 256) 0)) absent
            ∙ ap (λ (kind : AddressKind). cell_of (kind_of kind) (get_or blank.words.items (q % 256) 0))
            (get_or-replicate 256 (q % 256) Absent Absent s.below)
        | inr (inl less) ↦ cell_in-apart blank q (λ same. omega (arith, same, less))
        | inr (inr more) ↦ cell_in-apart blank q (λ same. omega (arith, same, more))
      ]

  number-below : (d : Page) (k : ℕ) → k < at → (get_or (insert pages at blank) k d).number ≡ (get_or pages k d).number
  number-below d k below = ap number_of (get_or-insert_below pages at blank d k below gap.within)

  number-here : (d : Page) (k : ℕ) → k ≡ at → (get_or (insert pages at blank) k d).number ≡ n
  number-here d k here =
      ap (λ (x : ℕ). (get_or (insert pages at blank) x d).number) here
      ∙ ap number_of (get_or-insert_at pages at blank d gap.within) ∙ is

  number-above : (d : Page) (k : ℕ) → at < k
      → (get_or (insert pages at blank) k d).number ≡ (get_or pages (k - 1) d).number
  number-above d k above =
      let e : k - 1 + 1 ≡ k = omega arith in
      subst (λ (x : ℕ). (get_or (insert pages at blank) x d).number ≡ (get_or pages (k - 1) d).number) e
      (ap number_of (get_or-insert_above pages at blank d (k - 1) (omega arith) gap.within))

  pub insert_rising : IsRising (insert pages at blank)
  insert_rising i j d less within =
      let size = length-insert pages at blank gap.within in
      grind (
        arith,
        number-below d i,
        number-here d i,
        number-above d i,
        number-below d j,
        number-here d j,
        number-above d j,
        paged.rising i j d,
        paged.rising i (j - 1) d,
        paged.rising (i - 1) (j - 1) d,
        gap.below i d,
        gap.above (j - 1) d,
      )

  pub insert_paged : IsPaged (insert pages at blank)
  insert_paged = record {
    rising = insert_rising;
    full = All-permutation IsFull (blank ∷ pages) (insert pages at blank) (IsPermutation-insert pages at blank)
        (All-cons IsFull blank pages full paged.full);
  }

  pub insert_cells : cells_of (insert pages at blank) ≡ cells_of pages
  insert_cells =
      same_cells _ _ (cell_map-in_order (flat_map page_cells (insert pages at blank)))
      (cell_map-in_order (flat_map page_cells pages)) (λ q.
      find-cells (insert pages at blank) q insert_paged.full ∙ among-insert pages q at blank (blank_cell q)
      ∙ sym (find-cells pages q paged.full))

-- an address of which no page has the number, or the page no kind
pub absent_page : (pages : List Page) (a at : ℕ) → IsPaged pages → IsGapFor pages (a / 256) at
    → find nat_cmp a (cells_of pages) ≡ None
absent_page pages a at paged gap =
    find-cells pages a paged.full ∙ among-none pages a (none_in_gap pages (a / 256) at gap)

-- the cell at an address on a page that was found
pub found_cell : (pages : List Page) (a at : ℕ) (d : Page) → IsPaged pages → IsAt pages (a / 256) at
    → find nat_cmp a (cells_of pages)
    ≡ cell_of (kind_of (get_or (get_or pages at d).kinds.items (a % 256) Absent))
    (get_or (get_or pages at d).words.items (a % 256) 0)
found_cell pages a at d paged found =
    find-cells pages a paged.full ∙ among-only pages a at d (only pages (a / 256) at paged.rising found)
    ∙ cell_in-there (get_or pages at d) a (found.number_is d)
