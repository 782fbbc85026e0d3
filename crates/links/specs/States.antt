-- States of runs, as a hub and a link that tells reach them: the hub sends what it wants before it next receives, and
-- the board may hear several datagrams in one receive. Profile.
use Rattle.std.specs.Prelude.{◌≡◌, true}
use Rattle.reliable_engine.specs.Events.{IsAtRest}
use Rattle.world_model.specs.Hub.{Hub, HandedOut}
use Rattle.world_model.specs.World.{World, with_told}
use Rattle.world_model.specs.Lanes.{IsLaneState}
use Rattle.world_model.specs.Links.{IsJoined, Told, together}

-- the world of a hub and a link that tells, after this was handed out
abbrev pub world_of_both : Hub → Told → HandedOut → World
world_of_both hub told before = with_told (together hub told) before

-- This hub, this board and this air are a state of a run that begins there, after this was handed out: once the sends
-- that wait are in the air, some moves lead to it.
pub record IsReached (begin : World) (before : HandedOut) (hub : Hub) (told : Told) : Type 0 where
  pub joined : IsJoined hub told
  pub rest : hub.gave_up ≡ true → IsAtRest hub
  pub state : IsLaneState begin (world_of_both hub told before)
