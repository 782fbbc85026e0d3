use Rattle.std.proofs.Common.{◌+◌, ℕ, [], ◌∷◌, get_or, length, take, subst, arith, ◌∙◌}
use Rattle.client_threads.specs.Clients.{bodies_on}
use Rattle.client_threads.specs.Running.{TookOnEach}
use Rattle.client_threads.proofs.Each.{all_took_then, bodies_left, bodies_more, lane_low, no_plans_then, seat_then}
use Rattle.client_threads.proofs.Each.{still_can_take, take_whole}
use Rattle.client_threads.proofs.run.take_all.Goals as goal

pub take_into-requires-clause-lane : goal.take_into-requires-clause-lane
take_into-requires-clause-lane g c κs within = lane_low 0 (length c.args.context.now.hub.now.turns) c.args.asks.now
    c.loop-ask.ask-index (0, 0) c.requires.asks (omega arith)

pub take_into-requires-clause-asked : goal.take_into-requires-clause-asked
take_into-requires-clause-asked g c κs within =
    let all = c.args.asks.now in
    let i = c.loop-ask.ask-index in
    still_can_take (λ on. bodies_on on all) (λ on. bodies_on on (take i all))
    (λ on. bodies_on on (get_or all i (0, 0) ∷ [])) c.args.lanes.now c.loop-ask.lanes c.args.seat.now.knows
    c.loop-ask.seat.knows c.requires.known c.requires.asked c.loop-ask.invariant.2
    (λ on. bodies_left on all i (0, 0) (omega arith))

pub returns-in_err-take_into-clause-no_plan : goal.returns-in_err-take_into-clause-no_plan
returns-in_err-take_into-clause-no_plan g c = no_plans_then c.args.seat.now.knows c.loop-ask.seat.knows
    c.take_into.new.seat.knows c.loop-ask.invariant.3 c.take_into.ensures.no_plan

pub loop-ask-preserved : goal.loop-ask-preserved
loop-ask-preserved g c =
    let all = c.args.asks.now in
    let i = c.loop-ask.ask-index in (
      seat_then c.args.seat.now c.loop-ask.seat c.take_into.new.seat c.loop-ask.invariant.0 c.take_into.ensures.seat,
      c.take_into.ensures.lanes ∙ c.loop-ask.invariant.1,
      all_took_then (λ on. bodies_on on (take i all)) (λ on. bodies_on on (get_or all i (0, 0) ∷ []))
          (λ on. bodies_on on (take (i + 1) all)) c.args.lanes.now c.loop-ask.lanes c.take_into.new.lanes
          c.args.seat.now.knows c.loop-ask.seat.knows c.take_into.new.seat.knows c.loop-ask.invariant.2
          c.in_ok-take_into.ensures.took (λ on. bodies_more on all i (0, 0) (omega arith)),
      no_plans_then c.args.seat.now.knows c.loop-ask.seat.knows c.take_into.new.seat.knows c.loop-ask.invariant.3
          c.take_into.ensures.no_plan,
    )

pub returns-clause-took : goal.returns-clause-took
returns-clause-took g c =
    subst (λ l. TookOnEach (λ (on : ℕ). bodies_on on l) c.args.lanes.now c.loop-ask.lanes c.args.seat.now.knows
    c.loop-ask.seat.knows) (take_whole c.args.asks.now c.loop-ask.ask-index (omega arith)) c.loop-ask.invariant.2
