-- Ids that stand twice among siblings. Profile.
use Rattle.std.specs.Prelude.{◌≡◌, ◌⊎◌, ◌≤◌, ℕ, List, [], ◌∷◌, ◌++◌}
use Rattle.address_table.specs.declared.nodes.Node.{Node, out-Node}
use Rattle.node_tree.specs.declared.refusal.CompileWhy.TheVariants.{Duplicate}
use Rattle.node_tree.specs.declared.refusal.CompileRefusal.{CompileRefusal}
use Rattle.node_tree.specs.declared.refusal.CompileRefusal.TheVariants.{At, NoMemory}
use Rattle.node_tree.specs.Maps.{Name, TableMap, nodes_of}
use Rattle.node_tree.specs.Names.{children_of, last_index, name_at}

-- the nodes that a root leads to below a name: those of the root at the top, and the children of each node that it
-- leads to, at each index of that node
pub data AreSiblings (tables : TableMap) (root : Name) : Name → List Node → Type 0 where
  top : AreSiblings tables root [] (nodes_of tables root)
  below : (above : Name) (before : List Node) (n : Node) (after : List Node) (i : ℕ)
      → i ≤ last_index n
      → AreSiblings tables root above (before ++ n ∷ after)
      → AreSiblings tables root (name_at above n i) (children_of tables n)

-- some node of a list has the id
abbrev pub HasId : Name → List Node → Type 0
HasId id [] = ⊥
HasId id (n ∷ ns) = ((out-Node n).id ≡ id) ⊎ HasId id ns

-- the name is that of the first index of a node whose id an earlier sibling has, indexes left aside
pub record IsRepeated (tables : TableMap) (root name : Name) : Type 0 where
  pub above : Name
  pub before : List Node
  pub repeated : Node
  pub after : List Node
  pub siblings : AreSiblings tables root above (before ++ repeated ∷ after)
  pub called : name ≡ name_at above repeated 0
  pub earlier : HasId (out-Node repeated).id before

-- where a refusal tells of a duplicate, an earlier sibling has the id of the node that it names
abbrev pub TellsRepeated : TableMap → Name → CompileRefusal → Type 0
TellsRepeated tables root (At name path why) = why ≡ Duplicate → IsRepeated tables root path
TellsRepeated tables root NoMemory = Unit {0}
