use Rattle.hub_multiplexer.proofs.Grows.{shown_same}
use Rattle.hub_multiplexer.proofs.own.send_on.Goals as goal

pub returns : goal.returns
returns g c = shown_same g.L.Link.telling c.args.lane.now c.send_wanted.new.self c.send_wanted.ensures.opening
    c.send_wanted.ensures.same
