use Rattle.world_model.proofs.Grammar.{status_found, status_known, reply_found, reply_known}
use Rattle.world_model.proofs.laws.reading.what_a_hub_reads.Goals as goal

pub returns-clause-status : goal.returns-clause-status
returns-clause-status c = λ bytes mtu buffers next fits. (
  λ e. status_found c.laws_below.ensures bytes mtu buffers next fits e,
  λ is. status_known c.laws_below.ensures bytes mtu buffers next fits is.0 is.1 is.2 is.3,
)

pub returns-clause-reply : goal.returns-clause-reply
returns-clause-reply c = λ bytes id words fits. (
  λ e. reply_found c.laws_below.ensures bytes id words fits e,
  λ is. reply_known c.laws_below.ensures bytes is.0 id words is.1 is.2,
)
