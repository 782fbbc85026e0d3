use Rattle.std.proofs.Common.{◌≡◌, ◌+◌, ◌*◌, take, drop}
use Rattle.toml.specs.Data.{depth, items_depth, members_depth}
use Rattle.toml.specs.View.{view, items_view, array_view, table_view}
use Rattle.address_table.specs.Tables.{AreNodes, first_fault, preorder_items}
use Rattle.address_table.proofs.read.+read.Given as goal

-- a node takes one level for itself, and its children one for their array
abbrev pub decreases-read_node : goal.decreases-read_node
decreases-read_node l = 4 * depth (view l.value.now)

abbrev pub decreases-read_rest : goal.decreases-read_rest
decreases-read_rest l = 4 * members_depth (table_view l.members.now) + 3

abbrev pub decreases-read_children : goal.decreases-read_children
decreases-read_children l = 4 * members_depth (table_view l.members.now) + 2

abbrev pub decreases-read_nodes : goal.decreases-read_nodes
decreases-read_nodes l = 4 * items_depth (array_view l.items.now) + 1

abbrev pub invariant-read_nodes-loop-i : goal.invariant-read_nodes-loop-i
invariant-read_nodes-loop-i l = record {
  nodes : AreNodes l.format (items_view (take l.i l.items.items)) l.nodes.items;
  rest : first_fault l.format (preorder_items l.i (items_view (drop l.i l.items.items)))
      ≡ first_fault l.format (preorder_items 0 (array_view l.items));
}
