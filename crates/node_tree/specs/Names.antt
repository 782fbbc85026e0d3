-- What registers are called: the ids on the way down to each, with dots between, and behind the id of a node with a
-- count an index; and where they lie: the addresses on that way, added up (uHAL; arrays of nodes are the profile's).
use Rattle.std.specs.Prelude.{◌≡◌, ◌↔◌, ◌≤◌, ℕ, ◌+◌, ◌-◌, ◌*◌, List, [], ◌∷◌, ◌++◌, codes, Option, Some, None}
use Rattle.std.specs.Prelude.{decimal}
use Rattle.std.specs.Option.{option_map_or}
use Rattle.std.specs.FinMap.{get}
use Rattle.address_table.specs.declared.nodes.Node.{Node, out-Node}
use Rattle.node_tree.specs.declared.register.Register.{Register}
use Rattle.node_tree.specs.Maps.{Name, TableMap, RegisterMap, nodes_of}

-- the children of a node: the nodes of the table of its module, or else its own
abbrev pub children_of : TableMap → Node → List Node
children_of tables n = option_map_or (nodes_of tables) (out-Node n).«module» (out-Node n).nodes.items

-- the byte between ids
abbrev pub dot : ℕ
dot = 46

-- an id below a name, after a dot; at the top the id alone
abbrev pub name_below : Name → Name → Name
name_below [] id = id
name_below (byte ∷ bytes) id = (byte ∷ bytes) ++ dot ∷ id

-- the last index of a node, which counts from 0; a node without a count stands for one register, at index 0
abbrev pub last_index : Node → ℕ
last_index n = option_map_or (λ count. count - 1) (out-Node n).count 0

-- an index in brackets, without leading zeros, where the node has a count
abbrev pub index_text : Option ℕ → ℕ → Name
index_text None i = []
index_text (Some count) i = codes "[" ++ (decimal i ++ codes "]")

-- the name that a node has below a name, its index left aside
abbrev pub plain_name : Name → Node → Name
plain_name above n = name_below above (out-Node n).id

-- the name and the address of an index of a node that stands below a name and an address
abbrev pub name_at : Name → Node → ℕ → Name
name_at above n i = plain_name above n ++ index_text (out-Node n).count i

abbrev pub address_at : ℕ → Node → ℕ → ℕ
address_at base n i = base + (out-Node n).address + i * (out-Node n).stride

abbrev pub register_at : ℕ → Node → ℕ → Register
register_at base n i = record {
  address = address_at base n i;
  mask = (out-Node n).mask;
  permission = (out-Node n).permission;
  mode = (out-Node n).mode;
  size = (out-Node n).size;
}

-- What a list of nodes names below a name and an address: each node names a register at each of its indexes, and its
-- children name theirs below the name and the address of each.
pub data Names (tables : TableMap) : List Node → Name → ℕ → Name → Register → Type 0 where
  itself : (n : Node) (ns : List Node) (above : Name) (base i : ℕ)
      → i ≤ last_index n
      → Names tables (n ∷ ns) above base (name_at above n i) (register_at base n i)
  child : (n : Node) (ns : List Node) (above : Name) (base i : ℕ) (name : Name) (r : Register)
      → i ≤ last_index n
      → Names tables (children_of tables n) (name_at above n i) (address_at base n i) name r
      → Names tables (n ∷ ns) above base name r
  later : (n : Node) (ns : List Node) (above : Name) (base : ℕ) (name : Name) (r : Register)
      → Names tables ns above base name r
      → Names tables (n ∷ ns) above base name r

-- what the table of a name names
abbrev pub RootNames : TableMap → Name → Name → Register → Type 0
RootNames tables root name r = Names tables (nodes_of tables root) [] 0 name r

-- an index has the registers that the table of a name names, and no others
abbrev pub IsIndexOf : TableMap → Name → RegisterMap → Type 0
IsIndexOf tables root index = (name : Name) (r : Register) → (get index name ≡ Some r) ↔ RootNames tables root name r
