-- The values of a state have 32 bits.
use Rattle.std.proofs.Common.{ℕ, List, [], ◌∷◌, ◌++◌, Option, Some, None, option_map, option_to_list}
use Rattle.std.specs.List.{AllByRecursion}
use Rattle.std.specs.Option.{option_map_or}
use Rattle.toml.specs.Data.{Data, Members, as_table, member, no_members}
use Rattle.address_table.specs.Numbers.{number}
use Rattle.node_tree.specs.Maps.{Name}
use Rattle.script_lang.proofs.SmallNumbers.{IsSmall, number_small}
use Rattle.config_store.specs.declared.state.StateEntry.{StateEntry}
use Rattle.config_store.specs.Meanings.{HasWord}
use Rattle.config_store.specs.States.{board_entries, boards_entries, entry_of, number_entries, table_entries}
use Rattle.config_input.specs.Work.{entries_in}

both : (xs ys : List StateEntry) → AllByRecursion HasWord xs → AllByRecursion HasWord ys → AllByRecursion HasWord (xs ++ ys)
both [] ys one other = other
both (x ∷ xs) ys one other = (one.0, both xs ys one.1 other)

of_number : (board name : Name) (found : Option ℕ) → IsSmall found
    → AllByRecursion HasWord (option_to_list (option_map (entry_of board name) found))
of_number board name None small = tt
of_number board name (Some n) small = (small, tt)

of_board : (board : Name) (ms : Members) → AllByRecursion HasWord (board_entries board ms)
of_board board no_members = tt
of_board board (member name value rest) =
    both (number_entries board name value) (board_entries board rest)
    (of_number board name (number value) (number_small value)) (of_board board rest)

of_table : (board : Name) (found : Option Members)
    → AllByRecursion HasWord (option_map_or (board_entries board) found [])
of_table board None = tt
of_table board (Some ms) = of_board board ms

of_boards : (ms : Members) → AllByRecursion HasWord (boards_entries ms)
of_boards no_members = tt
of_boards (member board value rest) =
    both (table_entries board value) (boards_entries rest) (of_table board (as_table value)) (of_boards rest)

of_state : (found : Option Members) → AllByRecursion HasWord (option_map_or boards_entries found [])
of_state None = tt
of_state (Some ms) = of_boards ms

pub values_small : (value : Option Data) → AllByRecursion HasWord (entries_in value)
values_small None = tt
values_small (Some value) = of_state (as_table value)
