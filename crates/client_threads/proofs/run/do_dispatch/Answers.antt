use Rattle.std.proofs.Common.{ℕ, subst, sym}
use Rattle.client_threads.specs.Clients.{bodies_on}
use Rattle.client_threads.specs.Running.{AskedOnEach, CanTake, OfEach, TookOnEach}
use Rattle.client_threads.proofs.Each.{can_take_asked, dispatched, no_plans_then}
use Rattle.client_threads.proofs.run.do_dispatch.Goals as goal

pub take_all-requires-clause-asked : goal.take_all-requires-clause-asked
take_all-requires-clause-asked g c κs within =
    let asks = c.args.dispatch.now.asks in
    let asked = subst (λ l. AskedOnEach (λ (on : ℕ). bodies_on on l) c.args.seat.now.knows c.ask_all.new.seat.knows)
    c.as_slice.ensures c.in_ok-ask_all.ensures.asked in
    subst (λ l. OfEach c.ask_all.new.seat.knows (λ on. CanTake (bodies_on on l))) (sym c.as_slice-2.ensures)
    (can_take_asked (λ on. bodies_on on asks) c.args.seat.now.knows c.ask_all.new.seat.knows c.requires.planned
    asked)

pub returns-in_err-take_all-clause-no_plan : goal.returns-in_err-take_all-clause-no_plan
returns-in_err-take_all-clause-no_plan g c = no_plans_then c.args.seat.now.knows c.ask_all.new.seat.knows
    c.take_all.new.seat.knows c.ask_all.ensures.no_plan c.take_all.ensures.no_plan

pub returns-clause-no_plan : goal.returns-clause-no_plan
returns-clause-no_plan g c = no_plans_then c.args.seat.now.knows c.ask_all.new.seat.knows c.take_all.new.seat.knows
    c.ask_all.ensures.no_plan c.take_all.ensures.no_plan

pub returns-clause-did : goal.returns-clause-did
returns-clause-did g c =
    let asks = c.args.dispatch.now.asks in
    let asked = subst (λ l. AskedOnEach (λ (on : ℕ). bodies_on on l) c.args.seat.now.knows c.ask_all.new.seat.knows)
    c.as_slice.ensures c.in_ok-ask_all.ensures.asked in
    let took = subst (λ l. TookOnEach (λ (on : ℕ). bodies_on on l) c.args.lanes.now c.take_all.new.lanes
    c.ask_all.new.seat.knows c.take_all.new.seat.knows) c.as_slice-2.ensures c.in_ok-take_all.ensures.took in
    dispatched (λ on. bodies_on on asks) c.args.lanes.now c.take_all.new.lanes c.args.seat.now.knows
    c.ask_all.new.seat.knows c.take_all.new.seat.knows asked took
