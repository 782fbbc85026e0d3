use Rattle.std.proofs.Common.{◌≡◌, ◌<◌, get_or, length, ap, subst, arith, ◌∙◌}
use Rattle.client_threads.specs.declared.plan.Dispatch.{Dispatch}
use Rattle.client_threads.specs.Clients.{AreRisingFrom}
use Rattle.client_threads.proofs.Each.{all_at, no_plans_then, run_can_ask, run_more, run_whole, seat_then}
use Rattle.client_threads.proofs.run.run_client.Goals as goal

pub do_dispatch-requires-clause-asks : goal.do_dispatch-requires-clause-asks
do_dispatch-requires-clause-asks g c κs within =
    let all = c.args.plan.now.dispatches in
    let i = c.loop-dispatch.dispatch-index in
    let d = c.dispatch-item.result in
    let list = c.as_slice-dispatch-items.ensures in
    let low : i < length all = subst (λ (l : _). i < length l) list c.loop-dispatch-test.true in
    let is : d ≡ get_or all i d = c.dispatch-item.is ∙ ap (λ l. get_or l i d) list in
    all_at (λ (e : Dispatch). AreRisingFrom 0 (length c.args.context.now.hub.now.turns) e.asks) all i d c.requires.plan low is

pub do_dispatch-requires-clause-planned : goal.do_dispatch-requires-clause-planned
do_dispatch-requires-clause-planned g c κs within =
    let all = c.args.plan.now.dispatches in
    let i = c.loop-dispatch.dispatch-index in
    let d = c.dispatch-item.result in
    let list = c.as_slice-dispatch-items.ensures in
    let low : i < length all = subst (λ (l : _). i < length l) list c.loop-dispatch-test.true in
    let is : d ≡ get_or all i d = c.dispatch-item.is ∙ ap (λ l. get_or l i d) list in
    run_can_ask c.args.plan.now i d c.loop-dispatch.seat.knows c.loop-dispatch.lanes low is
    c.loop-dispatch.invariant.2

pub returns-in_err-do_dispatch-clause-no_plan : goal.returns-in_err-do_dispatch-clause-no_plan
returns-in_err-do_dispatch-clause-no_plan g c = no_plans_then c.args.seat.now.knows c.loop-dispatch.seat.knows
    c.do_dispatch.new.seat.knows c.loop-dispatch.invariant.3 c.do_dispatch.ensures.no_plan

pub loop-dispatch-preserved : goal.loop-dispatch-preserved
loop-dispatch-preserved g c =
    let all = c.args.plan.now.dispatches in
    let i = c.loop-dispatch.dispatch-index in
    let d = c.dispatch-item.result in
    let list = c.as_slice-dispatch-items.ensures in
    let low : i < length all = subst (λ (l : _). i < length l) list c.loop-dispatch-test.true in
    let is : d ≡ get_or all i d = c.dispatch-item.is ∙ ap (λ l. get_or l i d) list in (
      seat_then c.args.seat.now c.loop-dispatch.seat c.do_dispatch.new.seat c.loop-dispatch.invariant.0
          c.do_dispatch.ensures.seat,
      c.do_dispatch.ensures.lanes ∙ c.loop-dispatch.invariant.1,
      run_more c.args.plan.now i d c.loop-dispatch.seat.knows
          c.do_dispatch.new.seat.knows c.loop-dispatch.lanes c.do_dispatch.new.lanes low is c.loop-dispatch.invariant.2
          c.in_ok-do_dispatch.ensures.did,
      no_plans_then c.args.seat.now.knows c.loop-dispatch.seat.knows c.do_dispatch.new.seat.knows
          c.loop-dispatch.invariant.3 c.do_dispatch.ensures.no_plan,
    )

pub returns-clause-ran : goal.returns-clause-ran
returns-clause-ran g c =
    let long = ap length c.as_slice-dispatch-items.ensures in
    run_whole c.args.plan.now c.loop-dispatch.dispatch-index c.loop-dispatch.seat.knows c.loop-dispatch.lanes
    (omega arith) c.loop-dispatch.invariant.2
