use Rattle.client_threads.specs.Running.{AddNoPlans, IsSameSeat, TookOn}
use Rattle.client_threads.proofs.run.take_on.Given as goal

-- so many outcomes were taken
abbrev pub invariant-loop : goal.invariant-loop
invariant-loop g l =
    IsSameSeat l.fn.seat l.seat
    × TookOn l.lane l.counter l.fn.outcomes.items l.outcomes.items l.fn.seat.knows l.seat.knows
    × AddNoPlans l.fn.seat.knows l.seat.knows
