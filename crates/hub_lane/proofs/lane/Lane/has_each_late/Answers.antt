use Rattle.std.proofs.Common.{Option, subst}
use Rattle.links.specs.Telling.{Telling}
use Rattle.hub_lane.specs.Lanes.{IsLane}
use Rattle.hub_lane.specs.Truth.{HasEachLate}
use Rattle.hub_lane.proofs.Truth.{told_each}
use Rattle.hub_lane.proofs.lane.Lane.has_each_late.Goals as goal

pub returns : goal.returns
returns g c = λ settled.
    let v = c.args.self.now in
    let faults = g.L.Link.faults v.link in
    let quiets = g.L.Link.quiets v.link in
    told_each (g.L.Link.telling v.link) (λ t. HasEachLate t v.outcomes v.lates)
    (λ t told. c.a_timed_out_body_has_its_late_answer.ensures v.settings v.status v.hub v.items v.outcomes v.lates
    v.give_ups v.down v.spent t faults quiets
    (subst (λ (r : Option Telling). IsLane v.settings v.status v.hub v.items v.outcomes v.lates v.give_ups v.down
    v.spent
    r faults quiets) told c.is_sound.ensures) settled)
