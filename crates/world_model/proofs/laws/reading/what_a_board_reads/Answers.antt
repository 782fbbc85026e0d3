use Rattle.world_model.proofs.Grammar.{request_found, request_known, resend_found, control_found, control_known}
use Rattle.world_model.proofs.Readings.{resend_read}
use Rattle.std.proofs.Common.{ap, ◌∙◌}
use Rattle.world_model.specs.Messages.{to_board}
use Rattle.world_model.proofs.laws.reading.what_a_board_reads.Goals as goal

pub returns-clause-status : goal.returns-clause-status
returns-clause-status c = λ bytes fits. (
  λ e. request_found c.laws_below.ensures bytes fits e,
  λ is. request_known c.laws_below.ensures bytes fits is,
)

pub returns-clause-resend : goal.returns-clause-resend
returns-clause-resend c = λ bytes id fits. (
  λ e. resend_found c.laws_below.ensures bytes id fits e,
  λ is. ap to_board is.1 ∙ resend_read c.laws_below.ensures.packets.back id is.0,
)

pub returns-clause-control : goal.returns-clause-control
returns-clause-control c = λ bytes order id body fits. (
  λ e. control_found c.laws_below.ensures bytes order id body fits e,
  λ is. control_known c.laws_below.ensures bytes order id body is.0 is.1,
)
