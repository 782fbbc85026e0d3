use Rattle.std.proofs.Common.{◌∙◌, sym, subst, arith}
use Rattle.node_tree.specs.Named.{named_entries}
use Rattle.node_tree.specs.OverlapSearch.{Lowers}
use Rattle.node_tree.proofs.NotingLemmas.{at-plain, lowers-lowered}
use Rattle.node_tree.proofs.overlapping.noting.note.Goals as goal

pub returns-then-overlap_entries-clause-lowers : goal.returns-then-overlap_entries-clause-lowers
returns-then-overlap_entries-clause-lowers c =
    let es = c.args.entries.now in
    subst (Lowers (named_entries es) c.args.firsts.now) (sym c.lower.ensures)
    (lowers-lowered (named_entries es) c.args.firsts.now c.args.later c.args.earlier
    (λ less. at-plain es c.args.earlier c.args.later c.index-entries-earlier.result c.index-entries-later.result
    (omega arith) c.index-entries-earlier.is (omega arith) c.index-entries-later.is
    ∙ sym c.if-overlap_entries.ensures))

pub returns-else-overlap_entries-clause-settled : goal.returns-else-overlap_entries-clause-settled
returns-else-overlap_entries-clause-settled c =
    let es = c.args.entries.now in
    λ less. at-plain es c.args.earlier c.args.later c.index-entries-earlier.result c.index-entries-later.result
    (omega arith) c.index-entries-earlier.is (omega arith) c.index-entries-later.is
    ∙ sym c.if-overlap_entries.ensures
