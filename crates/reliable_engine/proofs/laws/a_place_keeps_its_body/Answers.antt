use Rattle.reliable_engine.proofs.Runs.{keeps_bodies, same_first}
use Rattle.reliable_engine.proofs.laws.a_place_keeps_its_body.Goals as goal

pub returns-clause-bodies : goal.returns-clause-bodies
returns-clause-bodies c = keeps_bodies

pub returns-clause-first : goal.returns-clause-first
returns-clause-first c = same_first
