use Rattle.std.proofs.Common.{◌++◌}
use Rattle.hub_session.proofs.Decisions.{answered_decided, left_decided}
use Rattle.hub_session.proofs.laws.each_body_was_decided_on_a_record_that_the_seat_saw.Goals as goal

pub returns-clause-answered : goal.returns-clause-answered
returns-clause-answered c = λ boards old new left_before left_after written_before written_after served s lane k after
    here there. answered_decided boards lane (s.answered ++ s.unwritten) s.unanswered old s.between new k after s.exchanged s.reached
    here there

pub returns-clause-unanswered : goal.returns-clause-unanswered
returns-clause-unanswered c = λ boards old new left_before left_after written_before written_after served s lane k
    after here there frame got is. left_decided boards lane (s.answered ++ s.unwritten) s.unanswered frame got old s.between new k after
    s.exchanged s.reached is here there
