-- A berth may go from one thread to another where its links may.
use denote.RattleType.{RattleType}
use denote.Param.Send.{IsSend, sendable}
use Rattle.std.proofs.Crossing.{crosses}
use Rattle.links.specs.declared.link.Link as Link
use Rattle.links.specs.contracts.ghost_list.GhostList as GhostList
use Rattle.board_berth.specs.contracts.berth.Berth as Berth

-- a list that contracts alone see has nothing to hand over
ghost_send : (T : RattleType) → IsSend (GhostList.the_row T)
ghost_send T = search (sendable, crosses) depth 40 fits 20000

pub berth_send : (L : RattleType) (g : Link.Ghosts L.Denot) → IsSend L → IsSend (Berth.the_row L g)
berth_send L g s = search (ghost_send, sendable, crosses) depth 80 fits 60000
