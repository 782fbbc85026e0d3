use Rattle.std.proofs.Common.{arith}
use Rattle.std.proofs.lemmas.Grind.{common_steps}
use Rattle.hub_multiplexer.specs.AnyCalls.{BegunAs}
use Rattle.hub_multiplexer.proofs.Boards.{changes_at}
use Rattle.hub_multiplexer.proofs.hub.BoardHub.begin.Goals as goal

pub returns : goal.returns
returns g c =
    changes_at c.seat.inside.client c.seat.inside.passes.items c.args.seat.now c.args.self.now.turns c.args.board
    c.index_mut.result.now c.begin.new.pass (BegunAs g.V.AtHub.manner) c.seat.view_is c.requires.seat c.requires.board
    c.index_mut.ensures.value c.begin.ensures.same c.begin.ensures.begun

pub index_mut-requires : goal.index_mut-requires
index_mut-requires g c = grind (arith, common_steps)

pub begin-requires : goal.begin-requires
begin-requires g c = grind (arith, common_steps)

pub invariant_of-seat : goal.invariant_of-seat
invariant_of-seat g c = grind (arith, common_steps)
