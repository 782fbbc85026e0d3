use Rattle.std.proofs.Common.{◌≡◌, ◌<◌, All, IfOk, [], sym, ap, ◌∙◌, subst}
use Rattle.std.proofs.lemmas.Result.{IfOk-weaker}
use Rattle.std.specs.FinMap.{entries, entries-from_sorted, from_sorted, len}
use Rattle.node_tree.specs.Named.{named_entries, AreInOrder}
use Rattle.node_tree.specs.OverlapSearch.{AreNamedRegisters}
use Rattle.node_tree.specs.Overlaps.{overlapping}
use Rattle.node_tree.proofs.EntryLemmas.{get-at}
use Rattle.node_tree.proofs.NamedLemmas.{by_bytes, sorted}
use Rattle.node_tree.proofs.Places.{overlapping-places}
use Rattle.node_tree.proofs.index.Index.overlaps.Goals as goal

pub returns-clause-pairs : goal.returns-clause-pairs
returns-clause-pairs c =
    let same =
    ap named_entries c.as_slice.ensures.value
    ∙ sym (entries-from_sorted by_bytes (named_entries c.self.inside.entries.items)
    (sorted c.self.inside.entries.items c.self.invariant.ordered)) ∙ ap entries c.self.view_is in
    subst (λ es. IfOk c.overlapping_pairs.result (λ pairs. pairs.items ≡ overlapping [] es)) same
    c.overlapping_pairs.ensures

pub returns-clause-places : goal.returns-clause-places
returns-clause-places c =
    IfOk-weaker c.overlapping_pairs.result _ _
    (λ pairs same. subst (All (λ p. (p.0 < p.1) × (p.1 < len c.args.self.now))) (sym same)
    (overlapping-places c.args.self.now)) (returns-clause-pairs c)

pub overlapping_pairs-requires-clause-in_order : goal.overlapping_pairs-requires-clause-in_order
overlapping_pairs-requires-clause-in_order c = subst AreInOrder (sym c.as_slice.ensures.value) c.self.invariant.ordered

pub overlapping_pairs-requires-clause-registers : goal.overlapping_pairs-requires-clause-registers
overlapping_pairs-requires-clause-registers c =
    let es = c.self.inside.entries.items in
    let whole = entries-from_sorted by_bytes (named_entries es) (sorted es c.self.invariant.ordered) in
    subst AreNamedRegisters (whole ∙ ap named_entries (sym c.as_slice.ensures.value))
    (λ i e is. c.self.invariant.registers e.0 e.1 (get-at (from_sorted (named_entries es)) i e.0 e.1 is))
