use Rattle.world_model.specs.Sends.{pending}
use Rattle.hub_lane.proofs.Linked.{IsSending}
use Rattle.hub_lane.proofs.exchange.send_all.Given as goal

abbrev pub invariant-loop-send : goal.invariant-loop-send
invariant-loop-send g l = IsSending (g.L.Link.telling l.fn.link) l.fn.hub (g.L.Link.telling l.link) l.hub
    (g.L.Link.faults l.fn.link) (g.L.Link.faults l.link) (g.L.Link.quiets l.fn.link) (g.L.Link.quiets l.link)
    (g.L.Link.gots l.fn.link) (g.L.Link.gots l.link) (g.L.Link.number l.fn.link) (g.L.Link.number l.link)
    (g.L.Link.held l.fn.link) (g.L.Link.held l.link)
    l.fn.run l.run (g.L.Link.traffic l.fn.link) (g.L.Link.traffic l.link)

abbrev pub decreases-loop-send : goal.decreases-loop-send
decreases-loop-send g l = pending l.hub
