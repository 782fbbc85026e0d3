use Rattle.world_model.proofs.AnsweredLate.{answered_late, one_late}
use Rattle.world_model.proofs.LateAnswers.{run_is_late}
use Rattle.world_model.proofs.laws.late_answers.a_late_answer_of_a_run_is_of_a_timed_out_body.Goals as goal

pub returns-clause-account : goal.returns-clause-account
returns-clause-account c = run_is_late

pub returns-clause-late : goal.returns-clause-late
returns-clause-late c = answered_late c.laws_below.ensures

pub returns-clause-once : goal.returns-clause-once
returns-clause-once c = one_late
