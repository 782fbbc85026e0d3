use Rattle.std.proofs.Common.{◌≤◌, subst}
use Rattle.std.specs.List.{sum_by}
use Rattle.std.proofs.lemmas.List.{take_all}
use Rattle.node_tree.specs.Spans.{takes_at}
use Rattle.node_tree.proofs.SpanLemmas.{once-more, past-more}
use Rattle.node_tree.proofs.overlapping.apart.follow_one_another.Goals as goal

pub loop-first-preserved : goal.loop-first-preserved
loop-first-preserved c =
    let spans = c.args.spans.now in
    let i = c.loop-first.first-index in
    record {
      once =
          once-more spans i c.loop-first.last_end c.loop-first-test.true c.if-first-last_end.false
          c.loop-first.invariant.once c.loop-first.invariant.past;
      past =
          past-more spans i c.loop-first.last_end c.loop-first-test.true c.if-first-last_end.false
          c.if-end-first.false c.loop-first.invariant.past;
    }

pub returns : goal.returns
returns c = λ holds address.
    subst (λ spans. sum_by (takes_at address) spans ≤ 1)
    (take_all c.loop-first.first-index c.args.spans.now c.loop-first-test.false) (c.loop-first.invariant.once address)
