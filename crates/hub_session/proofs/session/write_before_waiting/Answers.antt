use Rattle.hub_session.proofs.session.write_before_waiting.Goals as goal

pub returns-else-may_wait-clause-goes_on : goal.returns-else-may_wait-clause-goes_on
returns-else-may_wait-clause-goes_on g c = λ map seat left held start s. s
