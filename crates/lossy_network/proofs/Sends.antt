-- A simulated link may cross threads: more lies in it than a search goes through without being told how far. Cited
-- where a rack in memory is handed to what starts threads.
use denote.Param.Send.{IsSend, sendable}
use Rattle.circular_buffer.proofs.Crosses.{Cells-send, Deed-send}
use Rattle.std.proofs.Crossing.{crosses}
use Rattle.lossy_network.specs.contracts.link.SimLink as link

pub sim_link_send : IsSend link.the_row
sim_link_send = search (sendable, crosses, Cells-send, Deed-send) depth 60 fits 20000
