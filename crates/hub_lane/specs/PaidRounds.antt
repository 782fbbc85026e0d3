-- What a hub pays for its rounds over a link that tells: each round that ended without a settled place held a datagram
-- back.
use Rattle.std.specs.Prelude.{◌⊎◌, ℕ, ◌+◌, ◌*◌, ◌-◌, ◌≤◌, length}
use Rattle.world_model.specs.Hub.{Hub}
use Rattle.links.specs.Telling.{Telling}
use Rattle.lane_record.specs.Bounds.{HasReached}
use Rattle.hub_lane.specs.UnderWay.{IsUnderWay}

-- The hub gave up so many times, each time after `rounds` rounds, and so many datagrams were held. Of the rounds since
-- the last settled place all but the one that is under way are paid; and what is under way in that one is either still
-- so, or it is paid too.
pub record IsPaid (rounds given_up : ℕ) (hub : Hub) (held : ℕ) (t : Telling) : Type 0 where
  pub paid : HasReached (rounds * given_up + (hub.status_requests - 1)) held
  pub some_open : 1 ≤ hub.status_requests → 1 ≤ length hub.open_places
  pub under_way : 1 ≤ hub.status_requests
      → IsUnderWay hub t ⊎ HasReached (rounds * given_up + hub.status_requests) held
