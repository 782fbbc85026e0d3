-- The tables of the worked examples, as lists.
use Rattle.std.proofs.Common.{◌≡◌}
use Rattle.std.specs.FinMap.{entries, entries-from_sorted, get, get-from_sorted, find}
use Rattle.node_tree.specs.Maps.{Name}
use Rattle.node_tree.proofs.NamedLemmas.{by_bytes}
use Rattle.config_store.specs.Examples.{dashed_entries, dashed_table, overlapping_entries, overlapping_table}
use Rattle.config_store.specs.Examples.{small_entries, small_table}

pub small : entries small_table ≡ small_entries
small = entries-from_sorted by_bytes small_entries tt

pub small_get : (name : Name) → get small_table name ≡ find by_bytes name small_entries
small_get name = get-from_sorted by_bytes small_entries name tt

pub dashed : entries dashed_table ≡ dashed_entries
dashed = entries-from_sorted by_bytes dashed_entries tt

pub overlapping : entries overlapping_table ≡ overlapping_entries
overlapping = entries-from_sorted by_bytes overlapping_entries tt
