use Rattle.std.proofs.Common.{refl, subst, arith}
use Rattle.hub_multiplexer.specs.Calls.{MadeInTime, PerformMeans}
use Rattle.hub_multiplexer.specs.Seats.{ChangesAt}
use Rattle.client_threads.proofs.Each.{no_plans_looked, no_plans_none, no_plans_then, no_plans_took, none_to_take}
use Rattle.client_threads.proofs.Each.{same_seat, seat_then, still_can_take_on, took_on_none, took_on_step}
use Rattle.client_threads.proofs.run.take_on.Goals as goal

pub loop-init : goal.loop-init
loop-init g c = (
  (refl, refl),
  took_on_none c.args.lane c.args.outcomes.now.items c.args.seat.now.knows,
  no_plans_none
      c.args.seat.now.knows,
)

pub returns-in_err-outcome-clause-no_plan : goal.returns-in_err-outcome-clause-no_plan
returns-in_err-outcome-clause-no_plan g c =
    no_plans_then c.args.seat.now.knows c.loop.seat.knows c.perform.new.seat.knows c.loop.invariant.2
    (no_plans_looked c.args.lane c.loop.seat c.perform.new.seat c.in_err-outcome.ensures.looked)

pub returns-in_err-push-in-Ready-clause-no_plan : goal.returns-in_err-push-in-Ready-clause-no_plan
returns-in_err-push-in-Ready-clause-no_plan g c =
    let step = subst (λ p. ChangesAt c.args.lane c.loop.seat c.perform.new.seat (λ k. MadeInTime k (PerformMeans k p)))
    c.in-Ready.is c.in_ok-outcome.ensures.performed in
    no_plans_then c.args.seat.now.knows c.loop.seat.knows c.perform.new.seat.knows c.loop.invariant.2
    (no_plans_took c.args.lane c.in-Ready.outcome c.loop.seat c.perform.new.seat step)

pub unreachable-requires : goal.unreachable-requires
unreachable-requires g c =
    let step = subst (λ p. ChangesAt c.args.lane c.loop.seat c.perform.new.seat (λ k. MadeInTime k (PerformMeans k p)))
    c.in-Nothing.is c.in_ok-outcome.ensures.performed in
    none_to_take c.args.lane c.loop.seat c.perform.new.seat (still_can_take_on c.args.lane c.args.count c.loop.counter
    1 c.args.outcomes.now.items c.loop.outcomes.items c.args.seat.now.knows c.loop.seat.knows c.requires.asked
    c.loop.invariant.1 (omega arith)) step

pub loop-preserved : goal.loop-preserved
loop-preserved g c =
    let step = subst (λ p. ChangesAt c.args.lane c.loop.seat c.perform.new.seat (λ k. MadeInTime k (PerformMeans k p)))
    c.in-Ready.is c.in_ok-outcome.ensures.performed in (
      seat_then c.args.seat.now c.loop.seat c.perform.new.seat c.loop.invariant.0
          (same_seat c.args.lane c.loop.seat c.perform.new.seat _ step),
      took_on_step c.args.lane c.loop.counter c.args.outcomes.now.items c.loop.outcomes.items c.push.new.self.items
          c.in-Ready.outcome c.args.seat.now.knows c.loop.seat c.perform.new.seat c.loop.invariant.1 step
          c.in_ok-push-in-Ready.ensures.items,
      no_plans_then c.args.seat.now.knows c.loop.seat.knows c.perform.new.seat.knows c.loop.invariant.2
          (no_plans_took c.args.lane c.in-Ready.outcome c.loop.seat c.perform.new.seat step),
    )
