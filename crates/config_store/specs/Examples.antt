-- Small tables and lines for worked examples.
use Rattle.std.specs.Prelude.{ℕ, List, [], ◌∷◌, codes}
use Rattle.std.specs.FinMap.{from_sorted}
use Rattle.address_table.specs.declared.kinds.Permission.{Permission}
use Rattle.address_table.specs.declared.kinds.Permission.TheVariants.{R, Rw}
use Rattle.address_table.specs.declared.kinds.Mode.{Mode}
use Rattle.address_table.specs.declared.kinds.Mode.TheVariants.{Single}
use Rattle.board_specs.specs.declared.spec.LinkSpec.TheVariants.{Udp}
use Rattle.node_tree.specs.Maps.{Name, RegisterMap}
use Rattle.node_tree.specs.declared.register.Register.{Register}
use Rattle.script_steps.specs.declared.operation.Verb.TheVariants as verb
use Rattle.transcript.specs.declared.line.OpLine.{OpLine}
use Rattle.transcript.specs.declared.line.OpResult.{OpResult}
use Rattle.config_store.specs.declared.state.StateEntry.{StateEntry}
use Rattle.config_store.specs.Kept.{IndexedBoard}

abbrev pub register : Name → ℕ → ℕ → Permission → Mode → Name × Register
register name address mask permission mode =
    (name, record { address = address; mask = mask; permission = permission; mode = mode; size = 1 })

-- a register whose top bit has a name, and one that is only read
abbrev pub small_entries : List (Name × Register)
small_entries =
    register (codes "a") 8 0xffffffff Rw Single
    ∷ register (codes "a.top") 8 0x80000000 Rw Single
    ∷ register (codes "id") 4 0xffffffff R Single
    ∷ []

abbrev pub small_table : RegisterMap
small_table = from_sorted small_entries

-- a name that stands between another and one below it
abbrev pub dashed_entries : List (Name × Register)
dashed_entries =
    register (codes "a") 8 0xffffffff Rw Single
    ∷ register (codes "a-b") 9 0xffffffff Rw Single
    ∷ register (codes "a.b") 8 1 Rw Single
    ∷ register (codes "ab.c") 10 1 Rw Single
    ∷ []

abbrev pub dashed_table : RegisterMap
dashed_table = from_sorted dashed_entries

-- two fields of one word that share a bit, and one that has bits of its own
abbrev pub overlapping_entries : List (Name × Register)
overlapping_entries =
    register (codes "x") 0 0xff Rw Single
    ∷ register (codes "y") 0 0x180 Rw Single
    ∷ register (codes "z") 0 0x200 Rw Single
    ∷ []

abbrev pub overlapping_table : RegisterMap
overlapping_table = from_sorted overlapping_entries

abbrev pub board : Name → RegisterMap → IndexedBoard
board name registers = (record { name = name; table = codes "t"; link = Udp [] 1 1 }, registers)

abbrev pub small_board : IndexedBoard
small_board = board (codes "b0") small_table

abbrev pub value_for : Name → Name → ℕ → StateEntry
value_for board name value = record { board = board; name = name; value = value }

-- what became of a read of a board's register
abbrev pub read_line : Name → Name → OpResult → OpLine
read_line board name result =
    record { number = 1; verb = verb.Read; board = board; name = name; result = result; places = [] }
