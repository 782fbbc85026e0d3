-- Tables with the same nodes under the same names. Profile.
use Rattle.std.specs.Prelude.{Option, Some, None}
use Rattle.std.specs.FinMap.{get}
use Rattle.address_table.specs.Tables.{SameTable}
use Rattle.address_table.specs.declared.nodes.Table.{Table}
use Rattle.node_tree.specs.Maps.{Name, TableMap}

-- no table twice, or two tables that are the same
abbrev pub SameFound : Option Table → Option Table → Type 0
SameFound None None = Unit {0}
SameFound None (Some u) = ⊥
SameFound (Some t) None = ⊥
SameFound (Some t) (Some u) = SameTable t u

-- the same tables have each name
abbrev pub SameTables : TableMap → TableMap → Type 0
SameTables tables others = (name : Name) → SameFound (get tables name) (get others name)
