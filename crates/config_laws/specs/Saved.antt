-- The configuration that boards open with, and its text: each kept register has the field of the word at its address.
-- Profile.
use Rattle.std.specs.Prelude.{◌≡◌, ℕ, Bool, List, ◌++◌, Some, Ok}
use Rattle.std.specs.List.{AllZip, filter, flat_map, slice_get}
use Rattle.std.specs.Str.{bytes_eq}
use Rattle.masked_fields.specs.Field.{field}
use Rattle.board_bus.specs.Cells.{read_word}
use Rattle.board_specs.specs.declared.spec.BoardSpec.{BoardSpec}
use Rattle.node_tree.specs.Maps.{Name}
use Rattle.board_history.specs.Runs.{opens_with}
use Rattle.config_store.specs.declared.state.StateEntry.{StateEntry}
use Rattle.config_store.specs.Kept.{KeptRegister}
use Rattle.config_store.specs.Text.{heading, value_text}

-- The value is that of the register: the field, under its mask, of the word at its address on the bus that the board of
-- its name opens with.
pub record IsSaved (specs : List BoardSpec) (kept : KeptRegister) (entry : StateEntry) : Type 0 where
  pub board' : entry.board ≡ kept.board
  pub name' : entry.name ≡ kept.name
  pub place : ℕ
  pub spec : BoardSpec
  pub on : slice_get specs place ≡ Some spec
  pub called : spec.name ≡ kept.board
  pub word : ℕ
  pub opened : read_word (opens_with spec.link) kept.register.address ≡ Ok word
  pub value' : entry.value ≡ field word kept.register.mask

-- so of each register, in their order
abbrev pub AreSaved : List BoardSpec → List KeptRegister → List StateEntry → Type 0
AreSaved specs kept entries = AllZip (IsSaved specs) kept entries

-- ---- the text

abbrev pub is_on : Name → StateEntry → Bool
is_on board entry = bytes_eq entry.board board

abbrev pub entry_text : StateEntry → List ℕ
entry_text entry = value_text entry.name entry.value

-- the values of the registers of a board
abbrev pub values_text : List StateEntry → Name → List ℕ
values_text entries board = flat_map entry_text (filter (is_on board) entries)

abbrev pub saved_board : List StateEntry → BoardSpec → List ℕ
saved_board entries spec = heading spec.name ++ values_text entries spec.name

-- a table of values for each board
abbrev pub saved_text : List BoardSpec → List StateEntry → List ℕ
saved_text specs entries = flat_map (saved_board entries) specs
