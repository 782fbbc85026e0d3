use Rattle.world_model.proofs.Kept.{run_was}
use Rattle.world_model.proofs.laws.history.what_was_is_kept.Goals as goal

pub returns-clause-places : goal.returns-clause-places
returns-clause-places c = λ moves old new is. (run_was is.at moves old new is.ran).sent

pub returns-clause-executed : goal.returns-clause-executed
returns-clause-executed c = λ moves old new is. (run_was is.at moves old new is.ran).log

pub returns-clause-air : goal.returns-clause-air
returns-clause-air c = λ moves old new is. (run_was is.at moves old new is.ran).air

pub returns-clause-fates : goal.returns-clause-fates
returns-clause-fates c = λ moves old new is. (run_was is.at moves old new is.ran).fates

pub returns-clause-lates : goal.returns-clause-lates
returns-clause-lates c = λ moves old new is. (run_was is.at moves old new is.ran).lates
