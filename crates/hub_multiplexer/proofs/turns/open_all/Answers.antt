use Rattle.std.proofs.Common.{map, ap}
use Rattle.hub_multiplexer.proofs.Openings.{opened_all}
use Rattle.hub_multiplexer.proofs.turns.open_all.Goals as goal

pub returns-clause-opened : goal.returns-clause-opened
returns-clause-opened g c = opened_all _ _ _ _ _ _ c.in-Ok.ensures.opening
    (ap (map g.V.Chronicle.entries) c.in-Ok.ensures.all) c.reverse.ensures.items c.reverse-2.ensures.items
