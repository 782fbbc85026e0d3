use Rattle.std.proofs.Common.{◌≡◌, length, sum, take}
use Rattle.client_threads.specs.Clients.{counts_on}
use Rattle.client_threads.specs.Running.{AddNoPlans, AtEach, HasRun, IsSameSeat}
use Rattle.client_threads.proofs.run.run_client.Given as goal

-- so many dispatches were done
abbrev pub invariant-loop-dispatch : goal.invariant-loop-dispatch
invariant-loop-dispatch g l =
    IsSameSeat l.fn.seat l.seat
    × (length l.lanes ≡ length l.fn.lanes)
    × AtEach l.seat.knows l.lanes (λ on. HasRun l.plan.client (sum (counts_on on l.plan))
    (take l.dispatch-index (counts_on on l.plan)))
    × AddNoPlans l.fn.seat.knows l.seat.knows
