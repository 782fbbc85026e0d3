-- What the readers promise one another. No public clause speaks of it.
use Rattle.std.specs.Prelude.{◌≡◌, ℕ, List, [], ◌∷◌, Option, Some}
use Rattle.std.specs.List.{slice_get}
use Rattle.std.specs.Option.{option_map_or}
use Rattle.std.specs.FinMap.{get}
use Rattle.toml.specs.Data.{Members, get_member}
use Rattle.address_table.specs.declared.refusal.TableWhy.{TableWhy}
use Rattle.node_tree.specs.Maps.{Name, TableMap}
use Rattle.script_lang.specs.declared.steps.Misfit.{Misfit}
use Rattle.script_lang.specs.declared.steps.Misfit.TheVariants.{At, NoMemory}
use Rattle.script_lang.specs.Walk.{Way}
use Rattle.script_lang.specs.Document.{Fault, in_table, IsTableAt}

-- a fault tells the first of these places, want of memory aside
abbrev pub TellsFirst : List Way → Misfit → Type 0
TellsFirst ways (At way) = slice_get ways 0 ≡ Some way
TellsFirst ways NoMemory = Unit {0}

-- the fault of the table of a name, if it has one
abbrev pub table_fault_list : Name → Option (List ℕ × TableWhy) → List Fault
table_fault_list name fault = option_map_or (λ f. in_table name f.0 f.1 ∷ []) fault []

-- each value of these is written in a format so that it is the table of its name, and no other name has a table
abbrev pub AreTables : ℕ → Members → TableMap → Type 0
AreTables format ms tables = (name : Name) → IsTableAt format (get_member name ms) (get tables name)
