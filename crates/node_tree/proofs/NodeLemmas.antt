-- The nodes of valid tables: each of them is valid, and so are those below it.
use Rattle.std.proofs.Common.{◌≡◌, List, [], ◌∷◌, Option, Some, None, refl}
use Rattle.std.specs.Option.{option_map_or}
use Rattle.std.specs.FinMap.{get}
use Rattle.address_table.specs.Valid.{IsValidNode, AreValid, no_nodes, and_node, IsValid}
use Rattle.address_table.specs.declared.nodes.Node.{Node, out-Node}
use Rattle.address_table.specs.declared.nodes.Table.{Table}
use Rattle.node_tree.specs.Maps.{Name, TableMap, nodes_of, AreValidTables}

-- the first of some nodes, those below it, and the others
abbrev pub Parts : List Node → Type 0
Parts [] = Unit {0}
Parts (n ∷ ns) = IsValidNode n × AreValid (out-Node n).nodes.items × AreValid ns

pub parts : (ns : List Node) → AreValid ns → Parts ns
parts ns no_nodes = tt
parts ns (and_node n ms valid below others) = (valid, below, others)

nodes_if : (o : Option Table) → ((t : Table) → o ≡ Some t → IsValid t)
    → AreValid (option_map_or (λ t. t.nodes.items) o [])
nodes_if None valid = no_nodes
nodes_if (Some t) valid = valid t refl

pub named_nodes : (tables : TableMap) → AreValidTables tables → (name : Name) → AreValid (nodes_of tables name)
named_nodes tables valid name = nodes_if (get tables name) (valid name)

pub children_if : (tables : TableMap) → AreValidTables tables → (name : Option Name) (own : List Node) → AreValid own
    → AreValid (option_map_or (nodes_of tables) name own)
children_if tables valid None own are = are
children_if tables valid (Some name) own are = named_nodes tables valid name
