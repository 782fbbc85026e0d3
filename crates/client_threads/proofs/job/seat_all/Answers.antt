use Rattle.std.proofs.Common.{length, refl, ap, subst, ◌∙◌, sym}
use Rattle.std.specs.List.{AllByRecursion}
use Rattle.client_threads.specs.Jobs.{IsSeated, plans_of}
use Rattle.client_threads.proofs.Jobs.{no_seats, seat_pushed}
use Rattle.client_threads.proofs.job.seat_all.Goals as goal

pub loop-plan-init : goal.loop-plan-init
loop-plan-init g c =
    let none = c.requires.empty in (
      ap length none,
      ap plans_of none,
      subst (AllByRecursion (IsSeated c.args.hub.now.turns))
          (sym none) tt,
      no_seats c.args.master.now,
      λ n h. h,
      refl,
    )

pub returns-in_err-seat-clause-taken_in : goal.returns-in_err-seat-clause-taken_in
returns-in_err-seat-clause-taken_in g c = λ n h. c.seat.ensures.taken_in n (c.loop-plan.invariant.4 n h)

pub loop-plan-preserved : goal.loop-plan-preserved
loop-plan-preserved g c =
    let i = c.loop-plan.invariant in
    let all = seat_pushed c.args.hub.now.turns c.args.master.now c.loop-plan.master c.seat.new.self c.args.plans.now
    c.loop-plan.plan-index c.loop-plan.jobs.items c.push_reserved.new.self.items _ c.push_reserved.ensures.items
    i.3 c.requires.hub.0 c.requires.clients c.requires.plans c.requires.awaited
    c.loop-plan-test.true c.plan-item.is c.in_ok-seat.ensures.seat c.is_of_its_client.ensures.numbers
    c.is_of_its_client.ensures.boards (c.in_ok-lanes.ensures.long ∙ c.boards.ensures) c.in_ok-lanes.ensures.none
    refl c.in_ok-seat.ensures.made i.0 i.1 i.2 in
    (all.0, all.1, all.2, all.3, λ n h. c.seat.ensures.taken_in n (i.4 n h), c.push_reserved.ensures.capacity ∙ i.5)
