use Rattle.links.specs.Receives.{receives_in}
use Rattle.hub_lane.proofs.lane.Lane.is_whole.Goals as goal

pub returns : goal.returns
returns g c =
    let v = c.args.self.now in
    c.a_finished_lane_is_whole.ensures v.settings v.status v.hub v.items v.outcomes v.lates v.give_ups v.down v.spent
    (g.L.Link.telling v.link) (g.L.Link.faults v.link) (g.L.Link.quiets v.link) (receives_in (g.L.Link.traffic v.link)) c.requires
    c.is_sound.ensures c.has_listened.ensures
