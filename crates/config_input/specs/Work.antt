-- What the commands on the configuration of boards do: which of it they find faulty, and the script of the one client
-- that they run. Profile.
use Rattle.std.specs.Prelude.{ℕ, List, [], ◌∷◌, ◌++◌, codes, Option, Some, None}
use Rattle.std.specs.Option.{option_map_or}
use Rattle.toml.specs.Data.{Data, Members, get_member}
use Rattle.script_lang.specs.Aside.{without}
use Rattle.config_store.specs.declared.state.StateEntry.{StateEntry}
use Rattle.config_store.specs.declared.refusal.StoreWhy.TheVariants.{Shape}
use Rattle.config_store.specs.Kept.{IndexedBoard, kept_of}
use Rattle.config_store.specs.Lines.{apply_lines, save_lines}
use Rattle.config_store.specs.Refusals.{applying_faults, keeping_faults}
use Rattle.config_store.specs.States.{StoreFault, shape_faults, state_entries}

-- the values that are written, and of boards with the registers of their tables: what is faulty, in order, and the lines
-- of the script
pub record Work : Type 0 where
  pub values : List StateEntry
  pub faults : List IndexedBoard → List StoreFault
  pub script : List IndexedBoard → List (List ℕ)

-- nothing is written, and each kept register is read
abbrev pub saving : Work
saving = record { values = []; faults = keeping_faults; script = λ boards. save_lines (kept_of boards) }

-- ---- the values that are to be written

-- a state is missing, or is no table of tables of numbers
abbrev pub state_faults : Option Data → List StoreFault
state_faults None = ([], [], Shape) ∷ []
state_faults (Some value) = shape_faults value

-- the values of a state, in byte order of the boards and then of the registers
abbrev pub entries_in : Option Data → List StateEntry
entries_in value = option_map_or state_entries value []

-- each value is written, and then each kept register is read
abbrev pub applying : Option Data → Work
applying value = record {
  values = entries_in value;
  faults = λ boards. state_faults value ++ applying_faults boards (entries_in value);
  script = λ boards. apply_lines (entries_in value) (kept_of boards);
}

-- ---- the commands

-- a command: what of a document it reads as a session and its policy, and what it does by the document
pub record ConfigCommand : Type 0 where
  pub part : Members → Members
  pub work : Members → Work

-- `save` reads a document as a run does
abbrev pub save_command : ConfigCommand
save_command = record { part = λ document. document; work = λ document. saving }

-- the key that has the values
abbrev pub state_key : List ℕ
state_key = codes "state"

-- `apply` reads one that has a state beside the session
abbrev pub apply_command : ConfigCommand
apply_command = record {
  part = λ document. without state_key document;
  work = λ document. applying (get_member state_key document);
}
