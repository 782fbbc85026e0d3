use Rattle.std.proofs.Common.{sym, ap, ◌∙◌}
use Rattle.std.specs.FinMap.{entries, entries-from_sorted}
use Rattle.node_tree.proofs.NamedLemmas.{by_bytes, sorted}
use Rattle.node_tree.proofs.name_map.NameMap.into_entries.Goals as goal

pub returns : goal.returns
returns g c =
    sym (entries-from_sorted by_bytes _ (sorted c.self.inside.by_name.entries c.self.invariant.0))
    ∙ ap entries c.self.view_is
