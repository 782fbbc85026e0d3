use Rattle.std.proofs.Common.{◌≡◌, ◌∙◌, ◌+◌, suc, Bool, Option, Some, sym, ap, subst, arith}
use Rattle.std.proofs.lemmas.Bool.{lt-ltb, le-ltb}
use Rattle.std.specs.Prelude.{if◌then◌else◌}
use Rattle.lane_record.specs.declared.outcome.Outcome.{Outcome}
use Rattle.lane_record.proofs.Offers.{length-put}
use Rattle.hub_lane.proofs.LostWithLink.{lost_at_place, lost_from, lost_unsent, settled_stays}
use Rattle.hub_lane.proofs.outcomes.lose_all.Goals as goal
use Rattle.hub_lane.proofs.outcomes.lose_all.Goals.{in-Some+then-is_sent, in-Some+else-is_sent}
use Rattle.hub_lane.proofs.outcomes.lose_all.Goals.{in_default+then-place-sent, in_default+else-place-sent}

pub loop-ask-preserved : goal.loop-ask-preserved
loop-ask-preserved c =
    let before = c.loop-ask.outcomes in
    let ask = c.loop-ask.ask in
    let place = c.loop-ask.place in
    let sent = c.args.sent in
    let invariant = c.loop-ask.invariant in
    let next : ask + 1 ≡ suc ask = omega arith in
    elim c.match-of_ask.branch [
      | in-Some+then-is_sent w ↦
          let there = c.of_ask.ensures ∙ ap (λ (o : Option Outcome). Some o) w.in-Some.is in
          rw (w.outcomes-is, w.place-is, next) (
            subst (λ (b : Bool). lost_from (suc ask) (if b then place + 1 else place) sent before.items
                ≡ lost_from ask place sent before.items) (sym (w.if-is_sent.ensures))
                (settled_stays before.items ask place sent w.in-Some.outcome there) ∙ invariant.0,
            omega (arith, invariant.1),
            invariant.2,
            invariant.3,
          )
      | in-Some+else-is_sent w ↦
          let there = c.of_ask.ensures ∙ ap (λ (o : Option Outcome). Some o) w.in-Some.is in
          rw (w.outcomes-is, w.place-is, next) (
            subst (λ (b : Bool). lost_from (suc ask) (if b then place + 1 else place) sent before.items
                ≡ lost_from ask place sent before.items) (sym (w.if-is_sent.ensures))
                (settled_stays before.items ask place sent w.in-Some.outcome there) ∙ invariant.0,
            omega (arith, invariant.1),
            invariant.2,
            invariant.3,
          )
      | in_default+then-place-sent w ↦
          let there = c.of_ask.ensures ∙ ap (λ (o : Option Outcome). Some o) w.in_default.is in
          rw (w.outcomes-is, w.put.ensures.items, w.put.ensures.lates, w.place-is, next) (
            lost_at_place before.items ask place sent there (lt-ltb place sent w.if-place-sent.true) ∙ invariant.0,
            omega (arith, invariant.1),
            length-put ask _ before.items ∙ invariant.2,
            invariant.3,
          )
      | in_default+else-place-sent w ↦
          let there = c.of_ask.ensures ∙ ap (λ (o : Option Outcome). Some o) w.in_default.is in
          let put = w.put-else-place-sent.ensures in
          rw (w.outcomes-is, put.items, put.lates, w.place-is, next) (
            lost_unsent before.items ask place sent there (le-ltb place sent w.if-place-sent.false) ∙ invariant.0,
            omega (arith, invariant.1),
            length-put ask _ before.items ∙ invariant.2,
            invariant.3,
          )
    ]
