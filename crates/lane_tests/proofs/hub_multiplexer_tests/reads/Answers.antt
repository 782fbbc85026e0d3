use Rattle.std.proofs.Common.{subst}
use Rattle.hub_multiplexer.specs.Calls.{AskTried}
use Rattle.hub_multiplexer.specs.Seats.{ChangesAt}
use Rattle.lane_tests.proofs.hub_multiplexer_tests.reads.Goals as goal

pub submit-requires-clause-all_asked : goal.submit-requires-clause-all_asked
submit-requires-clause-all_asked g c κs within =
    c.a_seat_that_asked_all_may_submit.ensures.tried 0 c.args.seat.now c.try_ask.new.seat
    (subst (λ answer. ChangesAt 0 c.args.seat.now c.try_ask.new.seat (λ k. AskTried k answer)) c.in-Nothing.is
    c.in_ok-try_ask.ensures.tried)
