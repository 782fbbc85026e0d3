use denote.Param.Send.{sendable}
use Rattle.lossy_network.proofs.Sends.{sim_link_send}
use Rattle.lane_tests.proofs.hub_session_tests.is_served.Goals as goal

pub is_served_over-requires-send-L : goal.is_served_over-requires-send-L
is_served_over-requires-send-L g c κs = search (sim_link_send, sendable)
