use Rattle.std.proofs.Common.{sym, subst, arith}
use Rattle.std.proofs.lemmas.Grind.{common_steps}
use Rattle.hub_multiplexer.specs.Seats.{ChangesAt}
use Rattle.hub_multiplexer.specs.Calls.{HasSubmitted, IsNone, MadeInTime, PerformMeans, SubmitRefused}
use Rattle.hub_multiplexer.specs.OwnItems.{HasTakenAllOf}
use Rattle.hub_multiplexer.specs.declared.answers.Performed.TheVariants as performs
use Rattle.hub_session.specs.Exchanges.{HasCome, WasRefused}
use Rattle.hub_session.specs.Serving.{AskedToo, HasAskedToo}
use Rattle.hub_session.specs.Inside.{IsSettled}
use Rattle.hub_session.proofs.Seats.{all_after, all_at, both, if_some_after, said, same_seat}
use Rattle.lane_tables.proofs.Results.{on_err_holds}
use Rattle.hub_session.proofs.Passes.{asked_too, came, no_memory_at, not_taken, settled_looked, settled_next}
use Rattle.hub_session.proofs.Passes.{submitted, was_refused}
use Rattle.hub_session.proofs.asking.submit.Goals as goal

pub take-requires-clause-asked : goal.take-requires-clause-asked
take-requires-clause-asked g c κs within =
    let lane = c.args.lane in
    let body = c.args.body in
    let old = c.args.seat.now in
    if_some_after (λ k. ¬ HasTakenAllOf k) lane old c.submit.new.seat
    (λ k. MadeInTime k (HasSubmitted k body c.in-Ok._seq)) c.in-Ok.ensures.submitted
    (λ k after there m. not_taken k after body m.meaning.give_ups
    (all_at IsSettled old.knows lane k c.requires.settled there) (submitted k after body c.in-Ok._seq m))

pub returns-in_err-take-in-Ok-clause-reached : goal.returns-in_err-take-in-Ok-clause-reached
returns-in_err-take-in-Ok-clause-reached g c =
    let lane = c.args.lane in
    let body = c.args.body in
    on_err_holds c.from_residual.result (
      AskedToo,
      both lane c.args.seat.now c.submit.new.seat c.take.new.seat
          (λ k. MadeInTime k (HasSubmitted k body c.in-Ok._seq)) (λ k. MadeInTime k IsNone) (HasAskedToo body)
          c.in-Ok.ensures.submitted c.in_err-take-in-Ok.ensures.looked
          (λ k mid after there m n. asked_too k mid after body c.in-Ok._seq m n),
    )

pub returns-in_ok-take-in-Ok-clause-got : goal.returns-in_ok-take-in-Ok-clause-got
returns-in_ok-take-in-Ok-clause-got g c =
    let lane = c.args.lane in
    let body = c.args.body in
    let old = c.args.seat.now in
    let outcome = c.in_ok-take-in-Ok.field-0 in
    both lane old c.submit.new.seat c.take.new.seat (λ k. MadeInTime k (HasSubmitted k body c.in-Ok._seq))
    (λ k. MadeInTime k (PerformMeans k (performs.Ready outcome))) (HasCome body outcome)
    c.in-Ok.ensures.submitted c.in_ok-take-in-Ok.ensures.took
    (λ k mid after there m n. came k mid after body c.in-Ok._seq outcome
    (all_at IsSettled old.knows lane k c.requires.settled there) m n)

pub returns-in_ok-take-in-Ok-clause-settled : goal.returns-in_ok-take-in-Ok-clause-settled
returns-in_ok-take-in-Ok-clause-settled g c =
    let body = c.args.body in
    let outcome = c.in_ok-take-in-Ok.field-0 in
    all_after IsSettled c.args.lane c.args.seat.now c.take.new.seat (HasCome body outcome)
    (returns-in_ok-take-in-Ok-clause-got g c) (λ k after h s. settled_next k after body outcome s h)
    c.requires.settled

pub returns-in_err-rule_of-in-Err-clause-reached : goal.returns-in_err-rule_of-in-Err-clause-reached
returns-in_err-rule_of-in-Err-clause-reached g c =
    let lane = c.args.lane in
    let body = c.args.body in
    let old = c.args.seat.now in
    let new = c.submit.new.seat in
    on_err_holds c.from_residual-in_err-rule_of-in-Err.result (no_memory_at lane old new body
    (subst (λ w. ChangesAt lane old new (λ k. MadeInTime k (SubmitRefused k body w)))
    c.in_err-rule_of-in-Err.ensures.memory c.in-Err.ensures.refused))

pub returns-in_ok-rule_of-in-Err : goal.returns-in_ok-rule_of-in-Err
returns-in_ok-rule_of-in-Err g c =
    let lane = c.args.lane in
    let body = c.args.body in
    let old = c.args.seat.now in
    let new = c.submit.new.seat in
    let rule = c.in_ok-rule_of-in-Err.field-0 in
    let refused = said lane old new (λ k. MadeInTime k (SubmitRefused k body c.in-Err.why)) (WasRefused body rule)
    c.in-Err.ensures.refused (λ k after there m. was_refused k after body rule
    (subst (λ w. MadeInTime k (SubmitRefused k body w) after) (sym c.in_ok-rule_of-in-Err.ensures.rule) m)) in record {
      same = same_seat lane old new (WasRefused body rule) refused;
      got = refused;
      settled = all_after IsSettled lane old new (WasRefused body rule) refused
          (λ k after w s. settled_looked k after s w.grew) c.requires.settled;
      reached = tt;
    }

pub returns-in_err-take-in-Ok-clause-got : goal.returns-in_err-take-in-Ok-clause-got
returns-in_err-take-in-Ok-clause-got g c = grind (arith, common_steps)

pub returns-in_err-take-in-Ok-clause-settled : goal.returns-in_err-take-in-Ok-clause-settled
returns-in_err-take-in-Ok-clause-settled g c = grind (arith, common_steps)

pub returns-in_err-rule_of-in-Err-clause-got : goal.returns-in_err-rule_of-in-Err-clause-got
returns-in_err-rule_of-in-Err-clause-got g c = grind (arith, common_steps)

pub returns-in_ok-take-in-Ok-clause-reached : goal.returns-in_ok-take-in-Ok-clause-reached
returns-in_ok-take-in-Ok-clause-reached g c = grind (arith, common_steps)
