use Rattle.std.proofs.Common.{take}
use Rattle.client_threads.specs.Clients.{bodies_on}
use Rattle.client_threads.specs.Running.{AddNoPlans, AskedOnEach, IsSameSeat}
use Rattle.client_threads.proofs.run.ask_all.Given as goal

-- the bodies of so many lanes were asked
abbrev pub invariant-loop-ask : goal.invariant-loop-ask
invariant-loop-ask g l =
    IsSameSeat l.fn.seat l.seat
    × AskedOnEach (λ on. bodies_on on (take l.ask-index l.asks)) l.fn.seat.knows l.seat.knows
    × AddNoPlans l.fn.seat.knows l.seat.knows
