use Rattle.world_model.proofs.LateAnswers.{offer_keeps_late, message_keeps_late, quiet_keeps_late, send_keeps_late}
use Rattle.world_model.proofs.laws.late_answers.a_late_answer_is_of_a_timed_out_body.Goals as goal

pub returns-clause-offered : goal.returns-clause-offered
returns-clause-offered c = offer_keeps_late

pub returns-clause-heard : goal.returns-clause-heard
returns-clause-heard c = message_keeps_late

pub returns-clause-quiet : goal.returns-clause-quiet
returns-clause-quiet c = quiet_keeps_late

pub returns-clause-sent : goal.returns-clause-sent
returns-clause-sent c = send_keeps_late
