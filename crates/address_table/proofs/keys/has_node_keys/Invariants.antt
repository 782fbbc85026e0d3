use Rattle.std.proofs.Common.{◌≡◌}
use Rattle.toml.specs.View.{members_view, table_view}
use Rattle.address_table.specs.Keys.{has_node_keys}
use Rattle.address_table.proofs.keys.has_node_keys.Given as goal

abbrev pub invariant-loop-key : goal.invariant-loop-key
invariant-loop-key l = has_node_keys l.format (members_view l.key-iterator) ≡ has_node_keys l.format (table_view l.members)
