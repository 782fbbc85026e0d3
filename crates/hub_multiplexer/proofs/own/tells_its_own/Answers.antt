use Rattle.std.proofs.Common.{refl}
use Rattle.hub_multiplexer.specs.Lanes.{shown_record}
use Rattle.hub_multiplexer.proofs.LaneCalls.{head}
use Rattle.hub_multiplexer.proofs.OwnItems.{own_are}
use Rattle.hub_multiplexer.proofs.own.tells_its_own.Goals as goal

pub returns-clause-own : goal.returns-clause-own
returns-clause-own g c k told =
    own_are c.an_entry_is_spelled_by_numbers.ensures.read k (head g.L.Link.telling c.args.lane.now)
    c.args.lane.now.items (shown_record g.L.Link.telling c.args.lane.now) refl told
