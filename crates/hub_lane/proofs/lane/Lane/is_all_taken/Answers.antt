use Rattle.std.proofs.Common.{subst, ◌↔◌}
use Rattle.std.specs.Prelude.{IsTrue}
use Rattle.lane_tables.specs.Taken.{IsAllTaken}
use Rattle.hub_lane.specs.Lanes.{LaneState}
use Rattle.hub_lane.proofs.lane.Lane.is_all_taken.Goals as goal

pub returns : goal.returns
returns g c = subst (λ (v : LaneState _). IsTrue c.is_all_taken.result ↔ IsAllTaken v.items) c.self.view_is
    c.is_all_taken.ensures
