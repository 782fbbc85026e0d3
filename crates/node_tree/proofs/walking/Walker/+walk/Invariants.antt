use Rattle.std.proofs.Common.{◌≡◌, ◌+◌, ◌-◌, ◌*◌, List, [], take, drop}
use Rattle.address_table.specs.declared.nodes.Node.{Node}
use Rattle.node_tree.specs.Limits.{most_ids}
use Rattle.node_tree.specs.Names.{last_index}
use Rattle.node_tree.specs.Walk.{walk, indexes, siblings}
use Rattle.node_tree.specs.Run.{run}
use Rattle.node_tree.proofs.walking.Walker.+walk.Given as goal

-- the levels that are left, first all nodes of one and then one of them
abbrev pub decreases-walk : goal.decreases-walk
decreases-walk l = 2 * (most_ids + 2 - l.level.ids) + 1

abbrev pub decreases-walk_node : goal.decreases-walk_node
decreases-walk_node l = 2 * (most_ids + 2 - l.level.ids)

abbrev pub invariant-walk-loop-node : goal.invariant-walk-loop-node
invariant-walk-loop-node l =
    let below = walk l.tables (most_ids + 1 - l.level.ids) (l.level.ids + 1) in
    let rest =
    siblings below l.tables l.level.ids l.above l.level.base (take l.node-index l.nodes)
    (drop l.node-index l.nodes) in
    run rest l.self.found
    ≡ run (siblings below l.tables l.level.ids l.above l.level.base [] l.nodes) l.initial.self.found

abbrev pub invariant-walk_node-loop-index : goal.invariant-walk_node-loop-index
invariant-walk_node-loop-index l =
    let below = walk l.tables (most_ids + 1 - l.level.ids) (l.level.ids + 1) in
    let count = last_index l.node + 1 in
    (earlier : List Node)
    → run (indexes below l.tables l.level.ids l.above l.level.base earlier l.node l.index (count - l.index))
    l.self.found
    ≡ run (indexes below l.tables l.level.ids l.above l.level.base earlier l.node 0 count) l.initial.self.found
