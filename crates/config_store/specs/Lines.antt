-- The lines of the script that reads a configuration, and of the one that writes values before. Profile.
use Rattle.std.specs.Prelude.{ℕ, List, ◌∷◌, ◌++◌, map, codes}
use Rattle.std.specs.Fmt.{decimal}
use Rattle.node_tree.specs.Maps.{Name}
use Rattle.config_store.specs.declared.state.StateEntry.{StateEntry}
use Rattle.config_store.specs.Kept.{KeptRegister}

-- a register by the name of its board, a colon and its own name
abbrev pub place_text : Name → Name → List ℕ
place_text board name = board ++ (codes ":" ++ name)

abbrev pub read_text : Name → Name → List ℕ
read_text board name = codes "read " ++ place_text board name

abbrev pub write_text : Name → Name → ℕ → List ℕ
write_text board name value = codes "write " ++ (place_text board name ++ (codes " " ++ decimal value))

abbrev pub read_line : KeptRegister → List ℕ
read_line kept = read_text kept.board kept.name

abbrev pub write_line : StateEntry → List ℕ
write_line entry = write_text entry.board entry.name entry.value

-- each kept register is read
abbrev pub save_lines : List KeptRegister → List (List ℕ)
save_lines kept = map read_line kept

-- each value is written and the writes are awaited, and then each kept register is read
abbrev pub apply_lines : List StateEntry → List KeptRegister → List (List ℕ)
apply_lines entries kept = map write_line entries ++ codes "dispatch" ∷ save_lines kept
