-- How a bus keeps its cells, on pages of 256 addresses by rising number: no public clause speaks of it. Profile.
use Rattle.std.specs.Prelude.{◌≡◌, ℕ, ◌+◌, ◌*◌, ◌/◌, ◌%◌, ◌<◌, ◌≤◌, List, [], ◌∷◌, ◌++◌, length, map}
use Rattle.std.specs.Prelude.{slice_index_or, Option, Some, None}
use Rattle.std.specs.Ordering.{nat_cmp}
use Rattle.std.specs.FinMap.Entries.{put}
use Rattle.std.specs.List.{All, flat_map}
use Rattle.board_bus.specs.declared.kind.RangeKind.{RangeKind}
use Rattle.board_bus.specs.declared.kind.RangeKind.TheVariants.{Rw, Ro, Wo, Slow}
use Rattle.board_bus.specs.declared.page.AddressKind.{AddressKind}
use Rattle.board_bus.specs.declared.page.AddressKind.TheVariants.{Absent, ReadWrite, ReadOnly, WriteOnly, TimesOut}
use Rattle.board_bus.specs.declared.page.Page.{Page}
use Rattle.board_bus.specs.declared.page.CellPlace.{CellPlace}
use Rattle.board_bus.specs.declared.page.TheConstants.{PAGE_WORDS}
use Rattle.board_bus.specs.Cells.{Cell, CellMap, cell_map}

-- the kind of what an address is, unless it is absent
abbrev pub kind_of : AddressKind → Option RangeKind
kind_of Absent = None
kind_of ReadWrite = Some Rw
kind_of ReadOnly = Some Ro
kind_of WriteOnly = Some Wo
kind_of TimesOut = Some Slow

-- the entry of a word at an address, where it has a kind
abbrev pub entry_of : ℕ → Option RangeKind → ℕ → List (ℕ × Cell)
entry_of address None word = []
entry_of address (Some kind) word = (address, record { kind = kind; word = word }) ∷ []

-- the entries of words at base, base + 1, .., those that have a kind
abbrev pub entries_from : ℕ → List (Option RangeKind) → List ℕ → List (ℕ × Cell)
entries_from base [] words = []
entries_from base (kind ∷ kinds) [] = []
entries_from base (kind ∷ kinds) (word ∷ words) = entry_of base kind word ++ entries_from (base + 1) kinds words

-- the cells of a page, and of a list of pages
abbrev pub page_cells : Page → List (ℕ × Cell)
page_cells page = entries_from (page.number * PAGE_WORDS) (map kind_of page.kinds.items) page.words.items

abbrev pub cells_of : List Page → CellMap
cells_of pages = cell_map (flat_map page_cells pages)

-- a page has its words, and beside each of them what its address is
pub record IsFull (page : Page) : Type 0 where
  pub words : length page.words.items ≡ PAGE_WORDS
  pub kinds : length page.kinds.items ≡ PAGE_WORDS

-- the numbers of the pages rise
abbrev pub IsRising : List Page → Type 0
IsRising pages = (i j : ℕ) (d : Page) → i < j → j < length pages
    → (slice_index_or pages i d).number < (slice_index_or pages j d).number

-- pages as a bus keeps them
pub record IsPaged (pages : List Page) : Type 0 where
  pub rising : IsRising pages
  pub full : All IsFull pages

-- the page at a place has the number
pub record IsAt (pages : List Page) (number place : ℕ) : Type 0 where
  pub within : place < length pages
  pub number_is : (d : Page) → (slice_index_or pages place d).number ≡ number

-- no page has the number, and the place is that of a page that would
pub record IsGapFor (pages : List Page) (number place : ℕ) : Type 0 where
  pub within : place ≤ length pages
  pub below : (k : ℕ) (d : Page) → k < place → (slice_index_or pages k d).number < number
  pub above : (k : ℕ) (d : Page) → place ≤ k → k < length pages → number < (slice_index_or pages k d).number

-- where the cell at an address stands, and its kind
pub record IsCellPlace (pages : List Page) (address : ℕ) (found : CellPlace) : Type 0 where
  pub page_is : IsAt pages (address / PAGE_WORDS) found.page
  pub place_is : found.place ≡ address % PAGE_WORDS
  pub kind_is : (d : Page)
      → kind_of (slice_index_or (slice_index_or pages found.page d).kinds.items found.place Absent) ≡ Some found.kind

-- these entries put into a map, the last one first
abbrev pub put_all : List (ℕ × Cell) → CellMap → CellMap
put_all [] cells = cells
put_all (entry ∷ entries) cells = put nat_cmp entry.0 entry.1 (put_all entries cells)
