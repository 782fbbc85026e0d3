-- Threads may share a hub where what stands in its turns may go from one to another.
use denote.RattleType.{RattleType}
use denote.Param.Send.{IsSend, IsSync, sendable}
use Rattle.std.proofs.Crossing.{crosses}
use Rattle.turn_pass.proofs.Shares.{turn_sync}
use Rattle.turn_pass.specs.declared.chronicle.Chronicle as Chronicle
use Rattle.links.specs.declared.link.Link as Link
use Rattle.hub_lane.specs.contracts.answers.PlanRefusal as PlanRefusal
use Rattle.hub_lane.specs.contracts.lane.Lane as Lane
use Rattle.hub_multiplexer.specs.declared.at_hub.AtHub as AtHub
use Rattle.hub_multiplexer.specs.contracts.hub.BoardHub as BoardHub
use Rattle.hub_multiplexer.specs.Calls.{lane_manner}
use Rattle.hub_multiplexer.specs.Lanes.{shown_record}

pub board_hub_sync : (V R : RattleType) (g : AtHub.Ghosts V.Denot R.Denot) (c : Chronicle.Ghosts V.Denot) → IsSend V
    → IsSync (BoardHub.the_row V R g c)
board_hub_sync V R g c s = search (turn_sync, sendable, crosses) depth 40 fits 20000

-- a lane may go from one thread to another where its link may
pub lane_send : (L : RattleType) (g : Link.Ghosts L.Denot) → IsSend L → IsSend (Lane.the_row L g)
lane_send L g s = search (sendable, crosses) depth 40 fits 20000

-- a hub of lanes
pub hub_sync : (L : RattleType) (g : Link.Ghosts L.Denot) → IsSend L
    → IsSync (BoardHub.the_row (Lane.the_row L g) PlanRefusal.the_row (record { manner = lane_manner })
    (record { entries = shown_record g.telling }))
hub_sync L g s = board_hub_sync (Lane.the_row L g) PlanRefusal.the_row (record { manner = lane_manner }) _
    (lane_send L g s)
