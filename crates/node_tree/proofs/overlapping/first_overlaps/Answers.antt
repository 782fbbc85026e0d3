use Rattle.std.proofs.Common.{◌≡◌, get_or, length, ap, sym, subst, ◌∙◌, arith}
use Rattle.std.proofs.lemmas.List.{get_or-replicate, length-replicate}
use Rattle.node_tree.specs.Named.{named_entries}
use Rattle.node_tree.specs.OverlapSearch.{AreFirsts}
use Rattle.node_tree.proofs.NotingLemmas.{written}
use Rattle.node_tree.proofs.overlapping.first_overlaps.Goals as goal

pub lower_firsts-requires-clause-lengths : goal.lower_firsts-requires-clause-lengths
lower_firsts-requires-clause-lengths c =
    let es = c.args.entries.now in
    ap length (c.deref_mut.ensures.value ∙ c.in_ok-firsts.ensures.items_if_clones_equal (λ y same. same))
    ∙ length-replicate (length es) (length es)

pub lower_firsts-requires-clause-none : goal.lower_firsts-requires-clause-none
lower_firsts-requires-clause-none c =
    let es = c.args.entries.now in
    let items = c.deref_mut.ensures.value ∙ c.in_ok-firsts.ensures.items_if_clones_equal (λ y same. same) in
    let n : length c.deref_mut.result.now ≡ length es = ap length items ∙ length-replicate (length es) (length es) in
    λ b d within. ap (λ ys. get_or ys b d) items ∙ get_or-replicate (length es) b (length es) d (omega (arith, n))

pub returns : goal.returns
returns c =
    let es = c.args.entries.now in
    let old = c.in_ok-firsts.firsts in
    let new = c.lower_firsts.new.firsts in
    let same : length new ≡ length old.items = c.lower_firsts.auto.firsts ∙ ap length c.deref_mut.ensures.value in
    subst (AreFirsts (named_entries es)) (sym (written old.len new old.items same old.ok.0)) c.in_ok-lower_firsts.ensures
