-- The values that a document gives to registers, under the key `state`: a table for each board, with a number for each
-- name of a register. Profile.
use Rattle.std.specs.Prelude.{ℕ, List, [], ◌∷◌, ◌++◌, option_map, option_to_list, if◌then◌else◌}
use Rattle.std.specs.Prelude.{is_some}
use Rattle.std.specs.Option.{option_map_or}
use Rattle.address_table.specs.Numbers.{number}
use Rattle.toml.specs.Data.{Data, Members, no_members, member, as_table}
use Rattle.node_tree.specs.Maps.{Name}
use Rattle.config_store.specs.declared.state.StateEntry.{StateEntry}
use Rattle.config_store.specs.declared.refusal.StoreWhy.{StoreWhy}
use Rattle.config_store.specs.declared.refusal.StoreWhy.TheVariants.{Shape}

-- the value of a register, where a number is given
abbrev pub entry_of : Name → Name → ℕ → StateEntry
entry_of board name value = record { board = board; name = name; value = value }

abbrev pub number_entries : Name → Name → Data → List StateEntry
number_entries board name value = option_to_list (option_map (entry_of board name) (number value))

-- those of the numbers of a board, in byte order of the names
abbrev pub board_entries : Name → Members → List StateEntry
board_entries board no_members = []
board_entries board (member name value rest) = number_entries board name value ++ board_entries board rest

abbrev pub table_entries : Name → Data → List StateEntry
table_entries board value = option_map_or (board_entries board) (as_table value) []

-- those of the tables of boards, in byte order of the boards
abbrev pub boards_entries : Members → List StateEntry
boards_entries no_members = []
boards_entries (member board value rest) = table_entries board value ++ boards_entries rest

abbrev pub state_entries : Data → List StateEntry
state_entries value = option_map_or boards_entries (as_table value) []

-- ---- what is no table of tables of numbers

-- a fault: a board, a register and the rule; both names are empty where no board is meant, and the register's where no
-- register is
abbrev pub StoreFault : Type 0
StoreFault = Name × Name × StoreWhy

abbrev pub number_fault : Name → Name → Data → List StoreFault
number_fault board name value = if is_some (number value) then [] else (board, name, Shape) ∷ []

abbrev pub number_faults : Name → Members → List StoreFault
number_faults board no_members = []
number_faults board (member name value rest) = number_fault board name value ++ number_faults board rest

abbrev pub table_faults : Name → Data → List StoreFault
table_faults board value = option_map_or (number_faults board) (as_table value) ((board, [], Shape) ∷ [])

abbrev pub board_faults : Members → List StoreFault
board_faults no_members = []
board_faults (member board value rest) = table_faults board value ++ board_faults rest

-- in byte order of the boards, and then of the registers
abbrev pub shape_faults : Data → List StoreFault
shape_faults value = option_map_or board_faults (as_table value) (([], [], Shape) ∷ [])
