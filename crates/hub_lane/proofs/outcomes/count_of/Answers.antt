use Rattle.std.proofs.Common.{◌∙◌, ℕ, sym, ap, arith, take}
use Rattle.std.specs.Prelude.{count_by}
use Rattle.std.proofs.Math.Seq.{take-length}
use Rattle.lane_record.specs.Bounds.{has_timed_out}
use Rattle.hub_lane.specs.Calls.{is_lost_at_place, is_replied}
use Rattle.hub_lane.proofs.Tables.{counted, timeouts_counted}
use Rattle.hub_lane.proofs.outcomes.count_of.Goals as goal

pub loop-ask-preserved : goal.loop-ask-preserved
loop-ask-preserved c =
    let items = c.args.outcomes.now.items in
    let ask = c.loop-ask.ask in
    let invariant = c.loop-ask.invariant in
    let outcome = c.of_ask-outcome.result.now in
    let there = c.of_ask-outcome.ensures in
    let replied = counted is_replied items ask outcome c.from-replied.result c.is_replied.result there
    c.is_replied.ensures c.from-replied.ensures in
    let timed_out = counted has_timed_out items ask outcome c.from-timed_out.result c.has_timed_out.result there
    c.has_timed_out.ensures c.from-timed_out.ensures in
    let lost = counted is_lost_at_place items ask outcome c.from-lost.result c.is_lost_at_place.result there
    c.is_lost_at_place.ensures c.from-lost.ensures in (
      omega (arith, invariant.0, replied.0),
      omega (arith, invariant.1, timed_out.0),
      omega (arith, invariant.2, lost.0),
      omega (arith, invariant.3, replied.1),
      omega (arith, invariant.4, timed_out.1),
      omega (arith, invariant.5, lost.1),
    )

pub returns-clause-timed_out : goal.returns-clause-timed_out
returns-clause-timed_out c =
    let items = c.args.outcomes.now.items in
    c.loop-ask.invariant.1
    ∙ (ap (λ (n : ℕ). count_by has_timed_out (take n items)) (omega (arith, c.len-ask-end.ensures))
    ∙ (ap (count_by has_timed_out) (take-length items) ∙ sym (timeouts_counted items)))
