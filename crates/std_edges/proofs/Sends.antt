-- A link over UDP may cross threads where its socket may: more lies in it than a search goes through without being told
-- how far. Cited where links of either kind are handed to what starts threads.
use denote.RattleType.{RattleType}
use denote.Param.Send.{IsSend, sendable}
use Rattle.std.proofs.Crossing.{crosses}
use Rattle.links.specs.declared.socket.DatagramSocket as DatagramSocket
use Rattle.std_edges.specs.declared.link_socket.LinkSocket as LinkSocket
use Rattle.std_edges.specs.contracts.udp_link.UdpLink as UdpLink

pub udp_link_send : (S : RattleType) (g : LinkSocket.Ghosts S.Denot) (d : DatagramSocket.Ghosts S.Denot) → IsSend S
    → IsSend (UdpLink.the_row S g d)
udp_link_send S g d s = search (sendable, crosses) depth 60 fits 20000
