use Rattle.std.proofs.Common.{◌∙◌, arith, ap, String, Global}
use Rattle.std.specs.List.{sum_by}
use Rattle.std.proofs.lemmas.List.{take_all}
use Rattle.std.proofs.lemmas.List.Sums.{sum_by_more}
use Rattle.node_tree.specs.declared.register.Register.{Register}
use Rattle.node_tree.specs.Spans.{register_takes}
use Rattle.node_tree.proofs.overlapping.apart.spans_of.Goals as goal

pub loop-entry-preserved : goal.loop-entry-preserved
loop-entry-preserved c = λ address.
    let takes = λ (e : String Global × Register). register_takes address e.1 in
    let more = sum_by_more takes c.args.entries.now c.loop-entry.entry-index c.entry-item.result c.loop-entry-test.true in
    omega (
      arith,
      more,
      ap takes c.entry-item.is,
      c.in_ok-push_span.ensures address,
      c.loop-entry.invariant address,
    )

pub returns : goal.returns
returns c = λ address.
    let takes = λ (e : String Global × Register). register_takes address e.1 in
    c.loop-entry.invariant address
    ∙ ap (sum_by takes) (take_all c.loop-entry.entry-index c.args.entries.now c.loop-entry-test.false)
