use denote.Param.Send.{sendable}
use Rattle.lossy_network.proofs.Sends.{sim_link_send}
use Rattle.lane_tests.proofs.hub_multiplexer_tests.four_clients_read_at_once.Goals as goal

pub four_read-requires-send-L : goal.four_read-requires-send-L
four_read-requires-send-L g c κs = search (sim_link_send, sendable)
