-- Modules (uHAL): tables whose nodes are the children of nodes of other tables.
use Rattle.std.specs.Prelude.{◌≡◌, true, false, List, ◌∷◌, ◌++◌, Some}
use Rattle.std.specs.List.{AllByRecursion}
use Rattle.std.specs.Ordering.{nat_cmp}
use Rattle.std.specs.Cmp.Lexicographic.{slice_cmp}
use Rattle.std.specs.FinMap.{FinMap, entries, contains_key}
use Rattle.address_table.specs.declared.nodes.Node.{Node, out-Node}
use Rattle.address_table.specs.declared.nodes.Table.{Table}
use Rattle.node_tree.specs.Maps.{Name, TableMap, nodes_of}

-- some node of a list, at any depth, has this module
pub data Mentions : List Node → Name → Type 0 where
  itself : (n : Node) (ns : List Node) (m : Name) → (out-Node n).«module» ≡ Some m → Mentions (n ∷ ns) m
  child : (n : Node) (ns : List Node) (m : Name) → Mentions (out-Node n).nodes.items m → Mentions (n ∷ ns) m
  later : (n : Node) (ns : List Node) (m : Name) → Mentions ns m → Mentions (n ∷ ns) m

-- a table leads to another through modules
pub data Reaches (tables : TableMap) : Name → Name → Type 0 where
  direct : (a b : Name) → Mentions (nodes_of tables a) b → Reaches tables a b
  through : (a b c : Name) → Mentions (nodes_of tables a) b → Reaches tables b c → Reaches tables a c

-- a map with a name
abbrev pub IsIn : {V : Type 0} → FinMap (slice_cmp nat_cmp) V → Name → Type 0
IsIn map name = contains_key map name ≡ true

-- the map has each module of the nodes
abbrev pub HasAll : {V : Type 0} → FinMap (slice_cmp nat_cmp) V → List Node → Type 0
HasAll map ns = (m : Name) → Mentions ns m → IsIn map m

-- the nodes have a module that the map has not
abbrev pub LacksOne : {V : Type 0} → FinMap (slice_cmp nat_cmp) V → List Node → Type 0
LacksOne map ns = (m : Name) × Mentions ns m × (contains_key map m ≡ false)

-- the map has the module of a node, if the node has one
abbrev pub HasOwn : {V : Type 0} → FinMap (slice_cmp nat_cmp) V → Node → Type 0
HasOwn map n = (m : Name) → (out-Node n).«module» ≡ Some m → IsIn map m

-- the node has a module that the map has not
abbrev pub LacksOwn : {V : Type 0} → FinMap (slice_cmp nat_cmp) V → Node → Type 0
LacksOwn map n = (m : Name) × ((out-Node n).«module» ≡ Some m) × (contains_key map m ≡ false)

-- a table has a module that is no table
abbrev pub HasUnknown : TableMap → Name → Type 0
HasUnknown tables name = LacksOne tables (nodes_of tables name)

abbrev pub ReachesItself : TableMap → Name → Type 0
ReachesItself tables name = Reaches tables name name

-- no table of a fact
abbrev pub NoTable : TableMap → (Name → Type 0) → Type 0
NoTable tables P = AllByRecursion (λ e. P e.0 → ⊥) (entries tables)

-- the table of a name is the first in byte order of which a fact holds
pub record IsFirstTable (tables : TableMap) (P : Name → Type 0) (name : Name) : Type 0 where
  pub before : List (Name × Table)
  pub «table» : Table
  pub after : List (Name × Table)
  pub place : entries tables ≡ before ++ (name, «table») ∷ after
  pub holds : P name
  pub first : AllByRecursion (λ e. P e.0 → ⊥) before
