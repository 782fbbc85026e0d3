use Rattle.std.proofs.Common.{sym, ap, ◌∙◌}
use Rattle.std.specs.FinMap.{get, get-from_sorted}
use Rattle.node_tree.specs.Named.{named_entries}
use Rattle.node_tree.proofs.NamedLemmas.{by_bytes, lookup-named, sorted}
use Rattle.node_tree.proofs.name_map.NameMap.get.Goals as goal

pub returns : goal.returns
returns g c =
    c.get.ensures.value ∙ lookup-named c.args.name.now c.self.inside.by_name.entries
    ∙ sym (get-from_sorted by_bytes (named_entries c.self.inside.by_name.entries) c.args.name.now
    (sorted c.self.inside.by_name.entries c.self.invariant.0))
    ∙ ap (λ m. get m c.args.name.now) c.self.view_is
