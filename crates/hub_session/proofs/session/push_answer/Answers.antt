use Rattle.std.proofs.Common.{inr, arith}
use Rattle.std.proofs.lemmas.Grind.{common_steps}
use Rattle.hub_session.specs.Serving.{Exchanged}
use Rattle.lane_tables.proofs.Results.{on_err_holds}
use Rattle.hub_session.proofs.session.push_answer.Goals as goal

pub returns-in_err-push-clause-stands : goal.returns-in_err-push-clause-stands
returns-in_err-push-clause-stands g c = on_err_holds c.from_residual-in_err-push.result
    (inr (Exchanged c.in_ok-answer_frame.ensures.answered.0, c.in_ok-answer_frame.ensures.answered.1))

pub returns-in_err-answer_frame-clause-settled : goal.returns-in_err-answer_frame-clause-settled
returns-in_err-answer_frame-clause-settled g c = grind (arith, common_steps)

pub returns-in_err-answer_frame-clause-stands : goal.returns-in_err-answer_frame-clause-stands
returns-in_err-answer_frame-clause-stands g c = grind (arith, common_steps)

pub returns-in_err-push-clause-settled : goal.returns-in_err-push-clause-settled
returns-in_err-push-clause-settled g c = grind (arith, common_steps)

pub returns-clause-settled : goal.returns-clause-settled
returns-clause-settled g c = grind (arith, common_steps)

pub returns-clause-answered : goal.returns-clause-answered
returns-clause-answered g c = grind (arith, common_steps)

pub returns-in_err-answer_frame-clause-same : goal.returns-in_err-answer_frame-clause-same
returns-in_err-answer_frame-clause-same g c = grind (arith, common_steps)

pub returns-in_err-answer_frame-clause-answered : goal.returns-in_err-answer_frame-clause-answered
returns-in_err-answer_frame-clause-answered g c = grind (arith, common_steps)

pub returns-in_err-push-clause-same : goal.returns-in_err-push-clause-same
returns-in_err-push-clause-same g c = grind (arith, common_steps)

pub returns-in_err-push-clause-answered : goal.returns-in_err-push-clause-answered
returns-in_err-push-clause-answered g c = grind (arith, common_steps)

pub returns-clause-same : goal.returns-clause-same
returns-clause-same g c = grind (arith, common_steps)

pub returns-clause-stands : goal.returns-clause-stands
returns-clause-stands g c = grind (arith, common_steps)
