use Rattle.std.proofs.Common.{◌≤◌, sym, ap, ◌∙◌, length, subst}
use Rattle.std.specs.FinMap.{len}
use Rattle.node_tree.specs.Limits.{most_nodes}
use Rattle.node_tree.proofs.NamedLemmas.{len-named}
use Rattle.node_tree.proofs.index.Index.len.Goals as goal

pub returns-clause-registers : goal.returns-clause-registers
returns-clause-registers c =
    ap length c.as_slice-entries.ensures.value ∙ sym (len-named c.self.inside.entries.items c.self.invariant.ordered)
    ∙ ap len c.self.view_is

pub returns-clause-few : goal.returns-clause-few
returns-clause-few c =
    subst (λ n. n ≤ most_nodes) (ap length (sym c.as_slice-entries.ensures.value)) c.self.invariant.few
