-- The tables of a document by their names, and registers by theirs. Names are bytes of texts, in byte order. Profile.
use Rattle.std.specs.Prelude.{◌≡◌, ◌+◌, ◌<◌, ◌≤◌, ◌^◌, List, [], Some, length, String}
use Rattle.std.specs.declared.alloc.Global.{Global}
use Rattle.std.specs.Option.{option_map_or}
use Rattle.std.specs.Ordering.{nat_cmp}
use Rattle.std.specs.Cmp.Lexicographic.{slice_cmp}
use Rattle.std.specs.FinMap.{FinMap, get, from_sorted}
pub use Rattle.node_tree.specs.Named.{Name, named_entries, AreInOrder}
use Rattle.address_table.specs.Valid.{FitsMode, IsValid}
use Rattle.address_table.specs.declared.nodes.Table.{Table}
use Rattle.address_table.specs.declared.nodes.Node.{Node}
use Rattle.node_tree.specs.Limits.{most_nodes}
use Rattle.node_tree.specs.declared.register.Register.{Register}
use Rattle.node_tree.specs.Addresses.{words_of, last_address}

abbrev pub TableMap : Type 0
TableMap = FinMap (slice_cmp nat_cmp) Table

abbrev pub RegisterMap : Type 0
RegisterMap = FinMap (slice_cmp nat_cmp) Register

-- the nodes of the table with a name; none where there is no such table
abbrev pub nodes_of : TableMap → Name → List Node
nodes_of tables name = option_map_or (λ t. t.nodes.items) (get tables name) []

-- the nodes of each table are valid
abbrev pub AreValidTables : TableMap → Type 0
AreValidTables tables = (name : Name) (t : Table) → get tables name ≡ Some t → IsValid t

-- What a register of an index keeps: its mask and its size fit its mode, its last address has 32 bits, and so a block
-- ends at the end of the addresses or before it.
pub record IsRegister (r : Register) : Type 0 where
  pub fits : FitsMode r.mode r.mask r.size
  pub last : last_address r < 2 ^ 32
  pub within : r.address + words_of r.mode r.size ≤ 2 ^ 32

abbrev pub AreRegisters : RegisterMap → Type 0
AreRegisters registers = (name : Name) (r : Register) → get registers name ≡ Some r → IsRegister r

-- what the entries of an index keep
pub record AreEntries (es : List (String Global × Register)) : Type 0 where
  pub ordered : AreInOrder es
  pub few : length es ≤ most_nodes
  pub registers : AreRegisters (from_sorted (named_entries es))
