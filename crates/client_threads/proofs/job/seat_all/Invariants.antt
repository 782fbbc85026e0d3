use Rattle.std.proofs.Common.{◌≡◌, ℕ, ◌+◌, length, map, take, vec_capacity}
use Rattle.std.specs.List.{AllByRecursion}
use Rattle.hub_multiplexer.specs.Ends.{HasTakenIn}
use Rattle.client_threads.specs.Jobs.{IsSeated, made_more, plans_of}
use Rattle.client_threads.proofs.job.seat_all.Given as goal

-- so many clients have their seats
abbrev pub invariant-loop-plan : goal.invariant-loop-plan
invariant-loop-plan g l =
    (length l.jobs.items ≡ l.plan-index)
    × (plans_of l.jobs.items ≡ take l.plan-index l.plans)
    × AllByRecursion (IsSeated l.hub.turns) l.jobs.items
    × (l.master ≡ record l.fn.master {
      seats = l.fn.master.seats + l.plan-index;
      knows = map (made_more l.plan-index) l.fn.master.knows;
    })
    × ((n : ℕ) → HasTakenIn n l.fn.master → HasTakenIn n l.master)
    × (vec_capacity l.jobs ≡ vec_capacity l.fn.jobs)
