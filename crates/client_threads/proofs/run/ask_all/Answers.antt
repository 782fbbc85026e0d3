use Rattle.std.proofs.Common.{◌+◌, ℕ, [], ◌∷◌, get_or, length, take, subst, arith}
use Rattle.client_threads.specs.Clients.{bodies_on}
use Rattle.client_threads.specs.Running.{AskedOnEach}
use Rattle.client_threads.proofs.Each.{all_asked_then, bodies_left, bodies_more, lane_low, no_plans_then, seat_then}
use Rattle.client_threads.proofs.Each.{still_can_ask, take_whole}
use Rattle.client_threads.proofs.run.ask_all.Goals as goal

pub ask_on-requires-clause-lane : goal.ask_on-requires-clause-lane
ask_on-requires-clause-lane g c κs within = lane_low 0 (length c.args.context.now.hub.now.turns) c.args.asks.now
    c.loop-ask.ask-index (0, 0) c.requires.lanes (omega arith)

pub ask_on-requires-clause-planned : goal.ask_on-requires-clause-planned
ask_on-requires-clause-planned g c κs within =
    let all = c.args.asks.now in
    let i = c.loop-ask.ask-index in
    still_can_ask (λ on. bodies_on on all) (λ on. bodies_on on (take i all))
    (λ on. bodies_on on (get_or all i (0, 0) ∷ [])) c.args.seat.now.knows c.loop-ask.seat.knows c.requires.planned
    c.loop-ask.invariant.1 (λ on. bodies_left on all i (0, 0) (omega arith))

pub returns-in_err-ask_on-clause-no_plan : goal.returns-in_err-ask_on-clause-no_plan
returns-in_err-ask_on-clause-no_plan g c = no_plans_then c.args.seat.now.knows c.loop-ask.seat.knows
    c.ask_on.new.seat.knows c.loop-ask.invariant.2 c.ask_on.ensures.no_plan

pub loop-ask-preserved : goal.loop-ask-preserved
loop-ask-preserved g c =
    let all = c.args.asks.now in
    let i = c.loop-ask.ask-index in (
      seat_then c.args.seat.now c.loop-ask.seat c.ask_on.new.seat c.loop-ask.invariant.0 c.ask_on.ensures.seat,
      all_asked_then (λ on. bodies_on on (take i all)) (λ on. bodies_on on (get_or all i (0, 0) ∷ []))
          (λ on. bodies_on on (take (i + 1) all)) c.args.seat.now.knows c.loop-ask.seat.knows c.ask_on.new.seat.knows
          c.loop-ask.invariant.1 c.in_ok-ask_on.ensures.asked (λ on. bodies_more on all i (0, 0) (omega arith)),
      no_plans_then c.args.seat.now.knows c.loop-ask.seat.knows c.ask_on.new.seat.knows c.loop-ask.invariant.2
          c.ask_on.ensures.no_plan,
    )

pub returns-clause-asked : goal.returns-clause-asked
returns-clause-asked g c =
    subst (λ l. AskedOnEach (λ (on : ℕ). bodies_on on l) c.args.seat.now.knows c.loop-ask.seat.knows)
    (take_whole c.args.asks.now c.loop-ask.ask-index (omega arith)) c.loop-ask.invariant.1
