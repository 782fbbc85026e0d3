-- Lists of ranges: which are refused, and the bus that the others open. Profile throughout.
use Rattle.std.specs.Prelude.{ℕ, ◌+◌, ◌-◌, ◌^◌, ◌<◌, ◌≤◌, ◌⊎◌, nat_le, ◌==◌, ◌&&◌, ◌||◌, nat_lt, Bool, false}
use Rattle.std.specs.Prelude.{if◌then◌else◌, List, [], ◌∷◌, ◌++◌, length, sum_by, replicate, Option, Some, None}
use Rattle.std.specs.List.{list_any, flat_map}
use Rattle.board_bus.specs.declared.range.Range.{Range}
use Rattle.board_bus.specs.declared.range.BusRefusal.{BusRefusal}
use Rattle.board_bus.specs.declared.range.BusRefusal.TheVariants.{Empty, PastEnd, Overlap, TooLarge, InitLong}
use Rattle.board_bus.specs.Cells.{Cell, CellMap, cell_map, cells_from}

-- the address after the last one of a range
abbrev pub end_of : Range → ℕ
end_of range = range.base + range.size

-- a range of no address
abbrev pub is_empty_range : Range → Bool
is_empty_range range = range.size == 0

-- a range that ends past address 0xffffffff
abbrev pub is_past_end : Range → Bool
is_past_end range = nat_lt (2 ^ 32) (end_of range)

-- a range that names more words than it has addresses
abbrev pub is_init_long : Range → Bool
is_init_long range = nat_lt range.size (length range.init)

-- whether two ranges that are not empty share an address
abbrev pub share_address : Range → Range → Bool
share_address r s = nat_lt r.base (end_of s) && nat_lt s.base (end_of r)

-- whether the test holds of two elements of a list, one after the other
abbrev pub any_pair : {X : Type 0} → (X → X → Bool) → List X → Bool
any_pair test [] = false
any_pair test (x ∷ xs) = list_any (test x) xs || any_pair test xs

-- the most words that the ranges of a bus may have together
abbrev pub most_words : ℕ
most_words = 4194304

-- The first rule that the whole list breaks, in the order of the refusals, or none.
abbrev pub refusal_of : List Range → Option BusRefusal
refusal_of ranges =
    if list_any is_empty_range ranges then Some Empty
    else if list_any is_past_end ranges then Some PastEnd
    else if any_pair share_address ranges then Some Overlap
    else if nat_lt most_words (sum_by (λ range. range.size) ranges) then Some TooLarge
    else if list_any is_init_long ranges then Some InitLong
    else None

-- the words of a range as it opens: those that it names, then zeros
abbrev pub opening_words : Range → List ℕ
opening_words range = range.init ++ replicate (range.size - length range.init) 0

-- the cells of a range as it opens
abbrev pub range_cells : Range → List (ℕ × Cell)
range_cells range = cells_from range.base range.kind (opening_words range)

-- the bus that a list of ranges opens with
abbrev pub opening_bus : List Range → CellMap
opening_bus ranges = cell_map (flat_map range_cells ranges)

-- a range holds the addresses from its base to the one before its end
abbrev pub holds_address : ℕ → Range → Bool
holds_address address range = nat_le range.base address && nat_lt address (end_of range)

-- an address that a range does not hold
abbrev pub IsOutside : ℕ → Range → Type 0
IsOutside address range = (address < range.base) ⊎ (end_of range ≤ address)
