-- A link may cross threads: more lies in it than one search goes through. So a link over UDP is gone through first, and
-- then a link of either kind.
use denote.Param.Send.{IsSend, sendable}
use Rattle.circular_buffer.proofs.Crosses.{Cells-send, Deed-send}
use Rattle.std.proofs.Crossing.{crosses}
use Rattle.std_edges.proofs.Sends.{udp_link_send}
use Rattle.net_edges.specs.contracts.any_link.AnyLink as AnyLink
use Rattle.ipbus.proofs.main.Goals as goal

any_link_send : IsSend AnyLink.the_row
any_link_send = search (udp_link_send, sendable, crosses, Cells-send, Deed-send) depth 60 fits 20000

pub control-status-requires-send-R-L : goal.control-status-requires-send-R-L
control-status-requires-send-R-L g c κs = search (any_link_send, sendable, crosses) depth 60 fits 20000
