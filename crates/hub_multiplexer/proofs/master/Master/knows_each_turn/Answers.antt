use Rattle.std.proofs.Common.{◌≡◌, length, subst}
use Rattle.hub_multiplexer.specs.Seats.{MasterState}
use Rattle.hub_multiplexer.proofs.Seats.{as_many_known}
use Rattle.hub_multiplexer.proofs.master.Master.knows_each_turn.Goals as goal

pub returns : goal.returns
returns c = subst (λ (m : MasterState). length m.knows ≡ length m.turns) c.self.view_is
    (as_many_known c.self.inside.passes.items)
