use Rattle.board_bus.proofs.Answered.{answers_any, can_answer, is_reply_to, replay-answers}
use Rattle.board_bus.proofs.laws.a_reply_answers_its_body.Goals as goal

pub returns-clause-requests : goal.returns-clause-requests
returns-clause-requests c = is_reply_to c.requests_are_read.ensures

pub returns-clause-bad_header : goal.returns-clause-bad_header
returns-clause-bad_header c = can_answer c.requests_are_read.ensures

pub returns-clause-any : goal.returns-clause-any
returns-clause-any c = answers_any c.requests_are_read.ensures

pub returns-clause-each : goal.returns-clause-each
returns-clause-each c = replay-answers c.requests_are_read.ensures
