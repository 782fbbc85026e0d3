use Rattle.std.proofs.Common.{◌≡◌, ◌<◌, sym, ap, ◌∙◌, length, get_or, slice_get, subst, Some, arith}
use Rattle.std.specs.FinMap.{len, entries}
use Rattle.node_tree.proofs.NamedLemmas.{len-named, at-named}
use Rattle.node_tree.proofs.EntryLemmas.{get-at}
use Rattle.node_tree.specs.Maps.{AreRegisters}
use Rattle.node_tree.proofs.index.Index.at.Goals as goal

pub bounds-entries-i : goal.bounds-entries-i
bounds-entries-i c =
    let whole = len-named c.self.inside.entries.items c.self.invariant.ordered in
    let same : len c.args.self.now ≡ length c.as_slice-entries.result.now =
    ap len (sym c.self.view_is) ∙ whole ∙ ap length (sym c.as_slice-entries.ensures.value) in
    subst (λ n. c.args.i < n) same c.requires

pub offset_bounds-entries-i : goal.offset_bounds-entries-i
offset_bounds-entries-i c =
    let whole = len-named c.self.inside.entries.items c.self.invariant.ordered in
    let same : len c.args.self.now ≡ length c.as_slice-entries.result.now =
    ap len (sym c.self.view_is) ∙ whole ∙ ap length (sym c.as_slice-entries.ensures.value) in
    let within : c.args.i < length c.as_slice-entries.result.now = subst (λ n. c.args.i < n) same c.requires in
    omega (arith, c.as_slice-entries.type_inv.1)

pub returns-clause-entry : goal.returns-clause-entry
returns-clause-entry c =
    let whole = len-named c.self.inside.entries.items c.self.invariant.ordered in
    let within : c.args.i < length c.self.inside.entries.items =
    subst (λ n. c.args.i < n) (ap len (sym c.self.view_is) ∙ whole) c.requires in
    let here : c.index-entries-i.result ≡ get_or c.self.inside.entries.items c.args.i c.index-entries-i.result =
    c.index-entries-i.is ∙ ap (λ es. get_or es c.args.i c.index-entries-i.result) c.as_slice-entries.ensures.value in
    ap (λ m. slice_get (entries m) c.args.i) (sym c.self.view_is)
    ∙ at-named c.self.inside.entries.items c.args.i c.index-entries-i.result c.self.invariant.ordered within here
    ∙ ap (λ bytes. Some (bytes, c.index-entries-i.result.1)) (sym c.as_str.ensures.value)

pub returns-clause-register : goal.returns-clause-register
returns-clause-register c =
    subst AreRegisters c.self.view_is c.self.invariant.registers _ c.index-entries-i.result.1
    (get-at c.args.self.now c.args.i _ c.index-entries-i.result.1 (returns-clause-entry c))
