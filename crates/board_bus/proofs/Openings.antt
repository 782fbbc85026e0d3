-- What a bus holds as it opens.
use Rattle.std.proofs.Common.{◌≡◌, ℕ, ◌+◌, ◌-◌, ◌^◌, ◌<◌, ◌≤◌, ◌⊎◌, inl, inr, Bool, true, false, cond, ltb, List, []}
use Rattle.std.proofs.Common.{◌∷◌, ◌++◌, length, length-append, replicate, append_assoc, append-nil, get_or, Option}
use Rattle.std.proofs.Common.{Some, None, refl, sym, ap, ◌∙◌, subst, arith}
use Rattle.std.specs.Prelude.{IfSome}
use Rattle.std.specs.Ordering.{nat_cmp, eq_by_cmp}
use Rattle.std.specs.FinMap.Entries.{find}
use Rattle.std.proofs.lemmas.List.Elements.{All-cons}
use Rattle.std.specs.List.{All, AllByRecursion, flat_map, list_any, sum_by}
use Rattle.std.proofs.lemmas.Bool.{or_parts, ltb-false, and_cases}
use Rattle.std.proofs.lemmas.List.{length-replicate}
use Rattle.std.proofs.lemmas.List.Folds.{list_any-append}
use Rattle.std.proofs.lemmas.Grind.{flat_map-append}
use Rattle.ipb_base.specs.Word.{IsWord, AreWords}
use Rattle.ipb_base.proofs.WordLemmas.{AreWords-append, AreWords-zeros}
use Rattle.board_bus.specs.declared.kind.RangeKind.{RangeKind}
use Rattle.board_bus.specs.declared.range.Range.{Range}
use Rattle.board_bus.specs.declared.range.BusRefusal.{BusRefusal}
use Rattle.board_bus.specs.declared.range.BusRefusal.TheVariants.{Empty, PastEnd, Overlap, TooLarge, InitLong}
use Rattle.board_bus.specs.Cells.{Cell, HoldsWords, cell_at, cells_from, read_cell, read_fault, read_word, unless}
use Rattle.board_bus.specs.Ranges.{end_of, is_empty_range, is_past_end, is_init_long, share_address, any_pair}
use Rattle.board_bus.specs.Ranges.{most_words, refusal_of, opening_words, range_cells, opening_bus, IsOutside}
use Rattle.board_bus.proofs.Lookups.{find-cell_map, find-front, find-rest, find-within, find-outside, at_address}

none_chosen : (b : Bool) (x : BusRefusal) (rest : Option BusRefusal) → cond b (Some x) rest ≡ None
    → (b ≡ false) × (rest ≡ None)
none_chosen true x rest h = absurd cc
none_chosen false x rest h = (refl, h)

-- a list of ranges that breaks no rule
pub record IsAccepted (ranges : List Range) : Type 0 where
  pub there : list_any is_empty_range ranges ≡ false
  pub within : list_any is_past_end ranges ≡ false
  pub apart : any_pair share_address ranges ≡ false
  pub init : list_any is_init_long ranges ≡ false

pub accepted : (ranges : List Range) → refusal_of ranges ≡ None → IsAccepted ranges
accepted ranges none =
    let empty = none_chosen (list_any is_empty_range ranges) Empty _ none in
    let past = none_chosen (list_any is_past_end ranges) PastEnd _ empty.1 in
    let overlap = none_chosen (any_pair share_address ranges) Overlap _ past.1 in
    let large = none_chosen (ltb most_words (sum_by (λ (r : Range). r.size) ranges)) TooLarge _ overlap.1 in
    let long = none_chosen (list_any is_init_long ranges) InitLong _ large.1 in
    record { there = empty.0; within = past.0; apart = overlap.0; init = long.0 }

-- one range among others
in_middle : {X : Type 0} (test : X → Bool) (front : List X) (x : X) (back : List X)
    → list_any test (front ++ x ∷ back) ≡ false → test x ≡ false
in_middle test [] x back h = (or_parts (test x) (list_any test back) h).0
in_middle test (y ∷ ys) x back h = in_middle test ys x back (or_parts (test y) (list_any test (ys ++ x ∷ back)) h).1

front_apart : (front : List Range) (range : Range) (back : List Range) (address : ℕ)
    → any_pair share_address (front ++ range ∷ back) ≡ false
    → range.base ≤ address → address < end_of range → AllByRecursion (IsOutside address) front
front_apart [] range back address apart low high = tt
front_apart (r ∷ rs) range back address apart low high =
    let parts = or_parts (list_any (share_address r) (rs ++ range ∷ back)) (any_pair share_address (rs ++ range ∷ back))
    apart in
    let one : share_address r range ≡ false = in_middle (share_address r) rs range back parts.0 in
    let outside : IsOutside address r = elim (and_cases (ltb r.base (end_of range)) (ltb range.base (end_of r)) one) [
      | inl h ↦ let past : end_of range ≤ r.base = ltb-false r.base (end_of range) h in inl (omega arith)
      | inr h ↦ let past : end_of r ≤ range.base = ltb-false range.base (end_of r) h in inr (omega arith)
    ] in
    (outside, front_apart rs range back address parts.1 low high)

-- A range has as many words as it has addresses, unless it starts with too many.
pub words-length : (range : Range) → length range.init ≤ range.size → length (opening_words range) ≡ range.size
words-length range fits =
    omega (
      arith,
      length-append range.init (replicate (range.size - length range.init) 0),
      length-replicate {A = ℕ} (range.size - length range.init) 0,
    )

find-outside_range : (range : Range) (address : ℕ) → length range.init ≤ range.size → IsOutside address range
    → find nat_cmp address (range_cells range) ≡ None
find-outside_range range address fits outside =
    find-outside address range.base range.kind (opening_words range)
    (subst (λ (n : ℕ). (address < range.base) ⊎ (range.base + n ≤ address)) (sym (words-length range fits)) outside)

find-outside_all : (ranges : List Range) (back : List (ℕ × Cell)) (address : ℕ) → list_any is_init_long ranges ≡ false
    → AllByRecursion (IsOutside address) ranges
    → find nat_cmp address (flat_map range_cells ranges ++ back) ≡ find nat_cmp address back
find-outside_all [] back address fits outside = refl
find-outside_all (r ∷ rs) back address fits outside =
    let parts = or_parts (is_init_long r) (list_any is_init_long rs) fits in
    ap (find nat_cmp address) (append_assoc (range_cells r) (flat_map range_cells rs) back)
    ∙ find-rest address (range_cells r) (flat_map range_cells rs ++ back)
    (find-outside_range r address (ltb-false r.size (length r.init) parts.0) outside.0)
    ∙ find-outside_all rs back address parts.1 outside.1

front-any : (test : Range → Bool) (front : List Range) (more : List Range) → list_any test (front ++ more) ≡ false
    → list_any test front ≡ false
front-any test front more h =
    (or_parts (list_any test front) (list_any test more) (sym (list_any-append test front more) ∙ h)).0

-- each address of a range holds what the range says
pub opening-within : (front back : List Range) (range : Range) (place : ℕ) → refusal_of (front ++ range ∷ back) ≡ None
    → place < range.size
    → cell_at (opening_bus (front ++ range ∷ back)) (range.base + place)
    ≡ Some (record { kind = range.kind; word = get_or (opening_words range) place 0 })
opening-within front back range place none below =
    let is = accepted (front ++ range ∷ back) none in
    let address = range.base + place in
    let end : end_of range ≤ 2 ^ 32 =
    ltb-false (2 ^ 32) (end_of range) (in_middle is_past_end front range back is.within) in
    let fits : length range.init ≤ range.size =
    ltb-false range.size (length range.init) (in_middle is_init_long front range back is.init) in
    let before : AllByRecursion (IsOutside address) front =
    front_apart front range back address is.apart (omega arith) (omega arith) in
    let there : find nat_cmp address (range_cells range)
    ≡ Some (record { kind = range.kind; word = get_or (opening_words range) (address - range.base) 0 }) =
    find-within address range.base range.kind (opening_words range) (omega arith)
    (omega (arith, words-length range fits)) in
    let offset : address - range.base ≡ place = omega arith in
    at_address address (opening_bus (front ++ range ∷ back)) _
    (find-cell_map address (flat_map range_cells (front ++ range ∷ back))
    ∙ ap (find nat_cmp address) (flat_map-append range_cells front (range ∷ back))
    ∙ find-outside_all front (flat_map range_cells (range ∷ back)) address
    (front-any is_init_long front (range ∷ back) is.init) before
    ∙ find-front address (range_cells range) (flat_map range_cells back) _ there
    ∙ ap (λ (n : ℕ). Some (record { kind = range.kind; word = get_or (opening_words range) n 0 })) offset) (omega arith)

pub opening-read : (front back : List Range) (range : Range) (place : ℕ) → refusal_of (front ++ range ∷ back) ≡ None
    → place < range.size
    → read_word (opening_bus (front ++ range ∷ back)) (range.base + place) ≡ unless (read_fault range.kind)
    (get_or (opening_words range) place 0)
opening-read front back range place none below = ap read_cell (opening-within front back range place none below)

-- an address in no range is absent
pub opening-outside : (ranges : List Range) (address : ℕ) → refusal_of ranges ≡ None
    → AllByRecursion (IsOutside address) ranges → cell_at (opening_bus ranges) address ≡ None
opening-outside ranges address none outside =
    let is = accepted ranges none in
    let nowhere : find nat_cmp address (opening_bus ranges) ≡ None =
    find-cell_map address (flat_map range_cells ranges)
    ∙ sym (ap (find nat_cmp address) (append-nil (flat_map range_cells ranges)))
    ∙ find-outside_all ranges [] address is.init outside in
    elim (ltb address (2 ^ 32)) as (λ b. cond b (find nat_cmp address (opening_bus ranges)) None ≡ None)
    [ true ↦ nowhere | false ↦ refl ]

-- a bus that opens with words holds words
entries-words : (entries : List (ℕ × Cell)) (a : ℕ) → AllByRecursion (λ e. IsWord e.1.word) entries
    → IfSome (find nat_cmp a entries) (λ cell. IsWord cell.word)
entries-words [] a fits = tt
entries-words (e ∷ es) a fits =
    elim (eq_by_cmp nat_cmp a e.0) as (λ b. IfSome (cond b (Some e.1) (find nat_cmp a es)) (λ cell. IsWord cell.word))
    [ true ↦ fits.0 | false ↦ entries-words es a fits.1 ]

cells-words : (base : ℕ) (kind : RangeKind) (words : List ℕ) (back : List (ℕ × Cell)) → AreWords words
    → AllByRecursion (λ e. IsWord e.1.word) back
    → AllByRecursion (λ e. IsWord e.1.word) (cells_from base kind words ++ back)
cells-words base kind [] back fits more = more
cells-words base kind (w ∷ ws) back fits more = (fits.0, cells-words (base + 1) kind ws back fits.1 more)

ranges-words : (ranges : List Range) → AllByRecursion (λ (r : Range). AreWords r.init) ranges
    → AllByRecursion (λ (e : ℕ × Cell). IsWord e.1.word) (flat_map range_cells ranges)
ranges-words [] fits = tt
ranges-words (r ∷ rs) fits =
    cells-words r.base r.kind (opening_words r) (flat_map range_cells rs)
    (AreWords-append r.init (replicate (r.size - length r.init) 0) fits.0 (AreWords-zeros (r.size - length r.init)))
    (ranges-words rs fits.1)

pub opening-words : (ranges : List Range) → AllByRecursion (λ (r : Range). AreWords r.init) ranges
    → HoldsWords (opening_bus ranges)
opening-words ranges fits = λ a.
    let found : IfSome (find nat_cmp a (opening_bus ranges)) (λ cell. IsWord cell.word) =
    subst (λ (o : Option Cell). IfSome o (λ cell. IsWord cell.word))
    (sym (find-cell_map a (flat_map range_cells ranges)))
    (entries-words (flat_map range_cells ranges) a (ranges-words ranges fits)) in
    elim (ltb a (2 ^ 32)) as (λ b. IfSome (cond b (find nat_cmp a (opening_bus ranges)) None)
    (λ cell. IsWord cell.word)) [ true ↦ found | false ↦ tt ]

-- no range of a bus names more words than it has addresses
pub init_fits : (ranges : List Range) → list_any is_init_long ranges ≡ false
    → All (λ (r : Range). length r.init ≤ r.size) ranges
init_fits [] none = λ k d within. absurd (omega arith)
init_fits (r ∷ rs) none =
    let parts = or_parts (is_init_long r) (list_any is_init_long rs) none in
    All-cons (λ (x : Range). length x.init ≤ x.size) r rs (ltb-false r.size (length r.init) parts.0)
    (init_fits rs parts.1)
