-- Which registers are the configuration of a board: those that are one word, are read and written, and are not parted
-- into registers below them. Profile; uHAL for names, permissions and modes.
use Rattle.std.specs.Prelude.{◌≡◌, List, map, Bool, true, false, not, ◌&&◌, Some}
use Rattle.std.specs.List.{filter, flat_map, list_any, zip}
use Rattle.std.specs.FinMap.{get, entries}
use Rattle.address_table.specs.declared.kinds.Mode.{Mode}
use Rattle.address_table.specs.declared.kinds.Mode.TheVariants.{Single, Block, Port, Hierarchical}
use Rattle.address_table.specs.declared.kinds.Permission.{Permission}
use Rattle.address_table.specs.declared.kinds.Permission.TheVariants.{R, W, Rw}
use Rattle.board_specs.specs.declared.spec.BoardSpec.{BoardSpec}
use Rattle.node_tree.specs.Maps.{Name, RegisterMap}
use Rattle.node_tree.specs.Overlaps.{is_dotted_prefix}
use Rattle.node_tree.specs.declared.register.Register.{Register}

-- another name begins with this one and a dot
abbrev pub has_below : List (Name × Register) → Name → Bool
has_below es name = list_any (λ e. is_dotted_prefix name e.0) es

abbrev pub is_single : Mode → Bool
is_single Single = true
is_single Block = false
is_single Port = false
is_single Hierarchical = false

abbrev pub is_rw : Permission → Bool
is_rw R = false
is_rw W = false
is_rw Rw = true

-- one word that is read and written
abbrev pub is_rw_word : Register → Bool
is_rw_word r = is_single r.mode && is_rw r.permission

-- a register among those of its table
abbrev pub is_kept : List (Name × Register) → Name × Register → Bool
is_kept es e = is_rw_word e.1 && not (has_below es e.0)

-- the kept registers of a table, in byte order of their names
abbrev pub registers_kept : RegisterMap → List (Name × Register)
registers_kept index = filter (is_kept (entries index)) (entries index)

-- What it is to be kept, of the register of a name: it is one word that is read and written, and no other name begins
-- with its name and a dot.
pub record IsKept (index : RegisterMap) (name : Name) (r : Register) : Type 0 where
  pub found : get index name ≡ Some r
  pub one_word : r.mode ≡ Single
  pub both_ways : r.permission ≡ Rw
  pub lowest : (other : Name) (below : Register) → get index other ≡ Some below → is_dotted_prefix name other ≡ false

-- ---- of a session

-- a board of a session, and the registers of its table
abbrev pub IndexedBoard : Type 0
IndexedBoard = BoardSpec × RegisterMap

-- the boards in the order of the document, one index for each
abbrev pub indexed_boards : List BoardSpec → List RegisterMap → List IndexedBoard
indexed_boards boards indexes = zip boards indexes

-- a kept register, and the name of its board
pub record KeptRegister : Type 0 where
  pub board : Name
  pub name : Name
  pub register : Register

abbrev pub kept_register : Name → Name × Register → KeptRegister
kept_register board e = record { board = board; name = e.0; register = e.1 }

abbrev pub kept_on : IndexedBoard → List KeptRegister
kept_on board = map (kept_register board.0.name) (registers_kept board.1)

-- those of all boards: board by board, and in byte order of their names
abbrev pub kept_of : List IndexedBoard → List KeptRegister
kept_of boards = flat_map kept_on boards
