use denote.Param.Send.{sendable}
use Rattle.lossy_network.proofs.Sends.{sim_link_send}
use Rattle.lane_tests.proofs.hub_multiplexer_tests.is_so_over.Goals as goal

pub is_so-requires-send-L : goal.is_so-requires-send-L
is_so-requires-send-L g c κs = search (sim_link_send, sendable)
