-- The bus as contracts see it: the cells that are there, each with a kind and a word. Addresses and words of 32 bits
-- are those of IPbus 2.0; the kinds are the profile's.
use Rattle.std.specs.Prelude.{ℕ, ◌^◌, nat_lt, if◌then◌else◌, List, [], ◌∷◌, map, Option, Some, None, IfSome, IsTrue}
use Rattle.std.specs.Prelude.{Result, Ok, Err}
use Rattle.std.specs.Ordering.{nat_cmp}
use Rattle.std.specs.List.{enumerate_from}
use Rattle.std.specs.FinMap.Entries.{find, is_sorted, put}
use Rattle.ipb_base.specs.Word.{IsWord}
use Rattle.board_bus.specs.declared.kind.RangeKind.{RangeKind}
use Rattle.board_bus.specs.declared.kind.RangeKind.TheVariants.{Rw, Ro, Wo, Slow}
use Rattle.board_bus.specs.declared.fault.BusFault.{BusFault}
use Rattle.board_bus.specs.declared.fault.BusFault.TheVariants.{ReadError, WriteError, ReadTimeout, WriteTimeout}

-- what an address holds
pub record Cell : Type 0 where
  pub kind : RangeKind
  pub word : ℕ

-- A finite map from addresses to cells: its entries by rising address, as std's `find` and `put` keep them. An
-- address that is in no entry is absent.
abbrev pub CellMap : Type 0
CellMap = List (ℕ × Cell)

-- the entries stand by rising address, each address once
abbrev pub IsInOrder : CellMap → Type 0
IsInOrder cells = IsTrue (is_sorted nat_cmp cells)

-- The cell at an address. An address is a number of 32 bits (IPbus 2.0): what is past the end is absent (profile).
abbrev pub cell_at : CellMap → ℕ → Option Cell
cell_at cells address = if nat_lt address (2 ^ 32) then find nat_cmp address cells else None

-- Which kinds refuse to be read, and why. Profile.
abbrev pub read_fault : RangeKind → Option BusFault
read_fault Rw = None
read_fault Ro = None
read_fault Wo = Some ReadError
read_fault Slow = Some ReadTimeout

-- Which kinds refuse to be written, and why. Profile.
abbrev pub write_fault : RangeKind → Option BusFault
write_fault Rw = None
write_fault Ro = Some WriteError
write_fault Wo = None
write_fault Slow = Some WriteTimeout

-- x, unless there is a fault
abbrev pub unless : {X : Type 0} → Option BusFault → X → Result X BusFault
unless None x = Ok x
unless (Some fault) x = Err fault

-- Reading an address gives its word; nothing can be read where no cell is. Profile.
abbrev pub read_cell : Option Cell → Result ℕ BusFault
read_cell None = Err ReadError
read_cell (Some cell) = unless (read_fault cell.kind) cell.word

abbrev pub read_word : CellMap → ℕ → Result ℕ BusFault
read_word cells address = read_cell (cell_at cells address)

-- Writing an address changes the word of its cell, and no kind and no other cell; nothing can be written where no
-- cell is. Profile.
abbrev pub write_cell : CellMap → ℕ → ℕ → Option Cell → Result CellMap BusFault
write_cell cells address word None = Err WriteError
write_cell cells address word (Some cell) =
    unless (write_fault cell.kind) (put nat_cmp address (record cell { word = word }) cells)

abbrev pub write_word : CellMap → ℕ → ℕ → Result CellMap BusFault
write_word cells address word = write_cell cells address word (cell_at cells address)

-- Every word on the bus has 32 bits. IPbus 2.0, registers.
abbrev pub HoldsWords : CellMap → Type 0
HoldsWords cells = (address : ℕ) → IfSome (cell_at cells address) (λ cell. IsWord cell.word)

-- the map of a list of entries in any order; at an address that stands twice, the first one counts
abbrev pub cell_map : List (ℕ × Cell) → CellMap
cell_map [] = []
cell_map (entry ∷ entries) = put nat_cmp entry.0 entry.1 (cell_map entries)

-- words of one kind at base, base + 1, ..
abbrev pub cells_from : ℕ → RangeKind → List ℕ → List (ℕ × Cell)
cells_from base kind words = map (λ e. (e.0, record { kind = kind; word = e.1 })) (enumerate_from base words)
