use Rattle.std.proofs.Common.{sym, ap, ◌∙◌, subst}
use Rattle.std.specs.FinMap.{get, get-from_sorted, find}
use Rattle.node_tree.specs.Maps.{AreRegisters}
use Rattle.node_tree.specs.Named.{named_entries}
use Rattle.node_tree.proofs.NamedLemmas.{by_bytes, sorted}
use Rattle.node_tree.proofs.RegisterLemmas.{found-register}
use Rattle.node_tree.proofs.index.Index.find.Goals as goal

pub returns-clause-found : goal.returns-clause-found
returns-clause-found c =
    c.found_in.ensures ∙ ap (λ es. find by_bytes c.args.name.now (named_entries es)) c.deref.ensures.value
    ∙ sym (get-from_sorted by_bytes (named_entries c.self.inside.entries.items) c.args.name.now
    (sorted c.self.inside.entries.items c.self.invariant.ordered)) ∙ ap (λ m. get m c.args.name.now) c.self.view_is

pub returns-clause-register : goal.returns-clause-register
returns-clause-register c =
    found-register c.args.self.now c.args.name.now c.found_in.result
    (subst AreRegisters c.self.view_is c.self.invariant.registers) (returns-clause-found c)
