use Rattle.std.proofs.Common.{ap, sym, subst, ◌∙◌}
use Rattle.std.specs.FinMap.{from_sorted}
use Rattle.node_tree.specs.Named.{named_entries}
use Rattle.node_tree.specs.ClosedNames.{HasNoClosed}
use Rattle.node_tree.proofs.ClosedNames.{none_closed}
use Rattle.node_tree.proofs.NamedLemmas.{by_bytes, empty-from_sorted, tree-in_order}
use Rattle.node_tree.proofs.name_map.NameMap.new.Goals as goal

pub invariant_of-result : goal.invariant_of-result
invariant_of-result g c = (
  tree-in_order _ c.new.ensures.ordered,
  λ _.
      subst HasNoClosed
      (sym (ap (λ es. from_sorted {R = by_bytes} (named_entries es)) c.new.ensures.empty ∙ empty-from_sorted)) none_closed,
)

pub returns : goal.returns
returns g c = ap (λ es. from_sorted {R = by_bytes} (named_entries es)) c.new.ensures.empty ∙ empty-from_sorted
