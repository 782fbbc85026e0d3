use Rattle.std.proofs.Common.{◌+◌, refl, subst}
use Rattle.hub_multiplexer.specs.Calls.{AskMeans, MadeInTime}
use Rattle.hub_multiplexer.specs.Seats.{ChangesAt}
use Rattle.client_threads.proofs.Each.{all_asked_none, all_asked_then, asked_step, no_plans_asked, no_plans_looked}
use Rattle.client_threads.proofs.Each.{no_plans_none, no_plans_then, none_to_ask, on_one, on_one_left, on_one_more}
use Rattle.client_threads.proofs.Each.{on_one_none, same_seat, seat_then, still_can_ask}
use Rattle.client_threads.proofs.run.ask_on.Goals as goal

pub loop-init : goal.loop-init
loop-init g c = (
  (refl, refl),
  all_asked_none (on_one c.args.lane 0) c.args.seat.now.knows
      (on_one_none c.args.lane),
  no_plans_none c.args.seat.now.knows,
)

pub returns-in_err-_seq-clause-no_plan : goal.returns-in_err-_seq-clause-no_plan
returns-in_err-_seq-clause-no_plan g c =
    no_plans_then c.args.seat.now.knows c.loop.seat.knows c.ask.new.seat.knows c.loop.invariant.2
    (no_plans_looked c.args.lane c.loop.seat c.ask.new.seat c.in_err-_seq.ensures.looked)

pub loop-preserved : goal.loop-preserved
loop-preserved g c =
    let lane = c.args.lane in
    let done = c.loop.counter in
    let step = subst (λ a. ChangesAt lane c.loop.seat c.ask.new.seat (λ k. MadeInTime k (AskMeans k a))) c.in-Asked.is
    c.in_ok-_seq.ensures.asked in (
      seat_then c.args.seat.now c.loop.seat c.ask.new.seat c.loop.invariant.0
          (same_seat lane c.loop.seat c.ask.new.seat _ step),
      all_asked_then (on_one lane done) (on_one lane 1) (on_one lane (done + 1)) c.args.seat.now.knows
          c.loop.seat.knows c.ask.new.seat.knows c.loop.invariant.1
          (asked_step lane c.in-Asked._seq c.loop.seat c.ask.new.seat step) (on_one_more lane done 1),
      no_plans_then c.args.seat.now.knows c.loop.seat.knows c.ask.new.seat.knows c.loop.invariant.2
          (no_plans_asked lane c.in-Asked._seq c.loop.seat c.ask.new.seat step),
    )

pub unreachable-requires : goal.unreachable-requires
unreachable-requires g c =
    let lane = c.args.lane in
    let done = c.loop.counter in
    let step = subst (λ a. ChangesAt lane c.loop.seat c.ask.new.seat (λ k. MadeInTime k (AskMeans k a)))
    c.in-Nothing.is c.in_ok-_seq.ensures.asked in
    none_to_ask lane c.loop.seat c.ask.new.seat (still_can_ask (on_one lane c.args.count) (on_one lane done)
    (on_one lane 1) c.args.seat.now.knows c.loop.seat.knows c.requires.planned c.loop.invariant.1
    (λ on. on_one_left lane done c.args.count on c.loop-test.true)) step
