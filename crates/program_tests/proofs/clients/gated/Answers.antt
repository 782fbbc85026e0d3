use denote.Param.Send.{sendable}
use Rattle.lossy_network.proofs.Sends.{sim_link_send}
use Rattle.program_tests.proofs.clients.gated.Goals as goal

pub control-status-requires-send-R-L : goal.control-status-requires-send-R-L
control-status-requires-send-R-L g c κs within = search (sim_link_send, sendable)
