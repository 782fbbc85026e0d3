use Rattle.std.proofs.Common.{◌≡◌}
use Rattle.hub_multiplexer.specs.Seats.{IsSeatOf}
use Rattle.lane_tests.proofs.hub_multiplexer_tests.step.Given as goal

-- the seat is the same client's, of the same hub
abbrev pub invariant-loop : goal.invariant-loop
invariant-loop g l = IsSeatOf l.hub l.seat × (l.seat.client ≡ l.fn.seat.client)
