use Rattle.std.proofs.Common.{◌≡◌, length, subst}
use Rattle.std.specs.List.{AllByRecursion}
use Rattle.turn_pass.specs.Pass.{Knowledge}
use Rattle.hub_multiplexer.specs.Seats.{SeatState}
use Rattle.hub_multiplexer.proofs.Seats.{as_many_known, numbers_idle}
use Rattle.hub_multiplexer.proofs.seat.Seat.is_of_its_client.Goals as goal

pub returns-clause-numbers : goal.returns-clause-numbers
returns-clause-numbers c = subst (λ (s : SeatState). AllByRecursion (λ (k : Knowledge). k.number ≡ s.client) s.knows)
    c.self.view_is (numbers_idle c.self.inside.client c.self.inside.passes.items c.self.invariant.1)

pub returns-clause-boards : goal.returns-clause-boards
returns-clause-boards c = subst (λ (s : SeatState). length s.knows ≡ length s.turns) c.self.view_is
    (as_many_known c.self.inside.passes.items)
