use Rattle.hub_session.specs.Serving.{Exchanged}
use Rattle.lane_tables.proofs.Results.{on_err_holds}
use Rattle.hub_session.proofs.Results.{on_ok_follows}
use Rattle.hub_session.proofs.answering.answer_packet.Goals as goal

pub returns-clause-answered : goal.returns-clause-answered
returns-clause-answered g c = on_ok_follows c.append_reply.result c.append_reply.ensures
    (λ bytes. (c.in_ok-got.got, c.in_ok-got.ensures.got, bytes))

pub returns-clause-reached : goal.returns-clause-reached
returns-clause-reached g c = on_err_holds c.append_reply.result (Exchanged c.in_ok-got.got, c.in_ok-got.ensures.got)
