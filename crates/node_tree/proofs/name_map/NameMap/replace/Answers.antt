use Rattle.std.proofs.Common.{ap, sym, subst, ◌∙◌, string_bytes}
use Rattle.std.specs.FinMap.{from_sorted, insert, get, get-from_sorted}
use Rattle.std.proofs.lemmas.Bool.{false≢true}
use Rattle.node_tree.specs.Named.{named_entries}
use Rattle.node_tree.specs.ClosedNames.{is_closed, HasNoClosed}
use Rattle.node_tree.proofs.ClosedNames.{still_none_closed}
use Rattle.node_tree.proofs.NamedLemmas.{by_bytes, lookup-named, sorted, tree-in_order, inserted}
use Rattle.node_tree.proofs.name_map.NameMap.replace.Goals as goal
use Rattle.node_tree.proofs.name_map.NameMap.replace.Goals.{then-self, else-self}

pub returns-clause-ok : goal.returns-clause-ok
returns-clause-ok g c =
    inserted c.self.inside.by_name.entries c.insert.new.self.entries c.in_ok-name.name c.args.value c.self.invariant.0
    (tree-in_order _ c.insert.ensures.ordered) c.in_ok-was.ensures.entries
    ∙ ap (λ m. insert m (string_bytes c.in_ok-name.name) c.args.value) c.self.view_is
    ∙ ap (λ name. insert c.args.self.now name c.args.value) c.in_ok-name.ensures.ok

pub returns-clause-was : goal.returns-clause-was
returns-clause-was g c =
    let entries = c.self.inside.by_name.entries in
    c.in_ok-was.ensures.old ∙ lookup-named (string_bytes c.in_ok-name.name) entries
    ∙ sym (get-from_sorted by_bytes (named_entries entries) (string_bytes c.in_ok-name.name) (sorted entries c.self.invariant.0))
    ∙ ap (λ m. get m (string_bytes c.in_ok-name.name)) c.self.view_is
    ∙ ap (λ name. get c.args.self.now name) c.in_ok-name.ensures.ok

pub invariant_of-self-2 : goal.invariant_of-self-2
invariant_of-self-2 g c =
    let order = tree-in_order _ c.insert.ensures.ordered in
    let entries = c.self.inside.by_name.entries in (
      order,
      λ open'.
          elim c.if-self.branch [
            | then-self w ↦ absurd (false≢true (sym open' ∙ (w.closed-is ∙ w.if-self.true)))
            | else-self w ↦
                let name_open = ap is_closed c.in_ok-name.ensures.ok
                ∙ (sym w.is_closed-closed.ensures ∙ (sym w.closed-is ∙ open')) in
                subst HasNoClosed
                (sym (inserted entries c.insert.new.self.entries c.in_ok-name.name c.args.value c.self.invariant.0 order
                c.in_ok-was.ensures.entries))
                (still_none_closed (from_sorted {R = by_bytes} (named_entries entries)) (string_bytes c.in_ok-name.name)
                c.args.value name_open (c.self.invariant.1 w.if-self.false))
          ],
    )
