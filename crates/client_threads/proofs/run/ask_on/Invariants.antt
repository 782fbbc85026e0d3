use Rattle.client_threads.specs.Running.{AddNoPlans, AskedOnEach, IsSameSeat}
use Rattle.client_threads.proofs.Each.{on_one}
use Rattle.client_threads.proofs.run.ask_on.Given as goal

-- so many bodies were asked
abbrev pub invariant-loop : goal.invariant-loop
invariant-loop g l =
    IsSameSeat l.fn.seat l.seat
    × AskedOnEach (on_one l.lane l.counter) l.fn.seat.knows l.seat.knows
    × AddNoPlans l.fn.seat.knows l.seat.knows
