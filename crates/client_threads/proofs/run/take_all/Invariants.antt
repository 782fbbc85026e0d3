use Rattle.std.proofs.Common.{◌≡◌, length, take}
use Rattle.client_threads.specs.Clients.{bodies_on}
use Rattle.client_threads.specs.Running.{AddNoPlans, IsSameSeat, TookOnEach}
use Rattle.client_threads.proofs.run.take_all.Given as goal

-- what became of the bodies of so many lanes was taken
abbrev pub invariant-loop-ask : goal.invariant-loop-ask
invariant-loop-ask g l =
    IsSameSeat l.fn.seat l.seat
    × (length l.lanes ≡ length l.fn.lanes)
    × TookOnEach (λ on. bodies_on on (take l.ask-index l.asks)) l.fn.lanes l.lanes l.fn.seat.knows l.seat.knows
    × AddNoPlans l.fn.seat.knows l.seat.knows
