use Rattle.reliable_engine.proofs.Waiting.{asked_while_waiting, was_asked}
use Rattle.reliable_engine.proofs.laws.a_status_is_asked_for_while_a_body_waits.Goals as goal

pub returns-clause-becomes : goal.returns-clause-becomes
returns-clause-becomes c = asked_while_waiting

pub returns-clause-since : goal.returns-clause-since
returns-clause-since c = was_asked
