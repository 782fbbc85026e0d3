-- The listing of a register table: its registers, and which of them overlap. uHAL for names and modes; profile.
use Rattle.std.specs.Prelude.{ℕ, List, [], ◌++◌, codes, Option, Some, None, slice_get}
use Rattle.std.specs.List.{flat_map}
use Rattle.std.specs.Fmt.{decimal}
use Rattle.std.specs.FinMap.{entries}
use Rattle.address_table.specs.declared.kinds.Permission.{Permission}
use Rattle.address_table.specs.declared.kinds.Permission.TheVariants.{R, W, Rw}
use Rattle.address_table.specs.declared.kinds.Mode.{Mode}
use Rattle.address_table.specs.declared.kinds.Mode.TheVariants.{Single, Block, Port, Hierarchical}
use Rattle.node_tree.specs.declared.register.Register.{Register}
use Rattle.node_tree.specs.Maps.{RegisterMap, Name}
use Rattle.node_tree.specs.Overlaps.{overlapping}
use Rattle.transcript.specs.Text.{word_text}

abbrev pub permission_text : Permission → List ℕ
permission_text R = codes "r"
permission_text W = codes "w"
permission_text Rw = codes "rw"

abbrev pub mode_text : Mode → List ℕ
mode_text Single = codes "single"
mode_text Block = codes "block"
mode_text Port = codes "port"
mode_text Hierarchical = codes "hierarchical"

-- how a register may be used, and its words
abbrev pub kinds_text : Register → List ℕ
kinds_text register =
    permission_text register.permission ++ (codes " "
    ++ (mode_text register.mode ++ (codes " " ++ (decimal register.size
    ++ codes "\n"))))

-- the line of a register
abbrev pub register_text : Name × Register → List ℕ
register_text (name, register) =
    name ++ (codes " " ++ (word_text register.address ++ (codes " " ++ (word_text register.mask ++ (codes " "
    ++ kinds_text register)))))

-- the line of two registers that overlap; places that are not there have none
abbrev pub overlap_of : Option (Name × Register) → Option (Name × Register) → List ℕ
overlap_of (Some first) (Some second) = codes "overlap " ++ (first.0 ++ (codes " " ++ (second.0 ++ codes "\n")))
overlap_of (Some first) None = []
overlap_of None second = []

-- that of the registers at two places from 0
abbrev pub overlap_text : List (Name × Register) → ℕ × ℕ → List ℕ
overlap_text named (first, second) = overlap_of (slice_get named first) (slice_get named second)

-- each register in byte order of the names, and then each that overlaps an earlier one, with the first such
abbrev pub named_text : List (Name × Register) → List ℕ
named_text named = flat_map register_text named ++ flat_map (overlap_text named) (overlapping [] named)

abbrev pub listing_text : RegisterMap → List ℕ
listing_text registers = named_text (entries registers)
