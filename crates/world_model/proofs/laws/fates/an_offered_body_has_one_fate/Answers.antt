use Rattle.world_model.proofs.Accounts.{accounted, few_fates, few_places, never_sent}
use Rattle.world_model.proofs.laws.fates.an_offered_body_has_one_fate.Goals as goal

pub returns-clause-account : goal.returns-clause-account
returns-clause-account c = accounted

pub returns-clause-fates : goal.returns-clause-fates
returns-clause-fates c = λ window rounds board air moves w tag is. few_fates moves w tag
    (accounted window rounds board air moves w tag is)

pub returns-clause-places : goal.returns-clause-places
returns-clause-places c = λ window rounds board air moves w tag is. few_places moves w tag
    (accounted window rounds board air moves w tag is)

pub returns-clause-unsent : goal.returns-clause-unsent
returns-clause-unsent c = λ window rounds board air moves w tag is once told. never_sent moves w tag
    (accounted window rounds board air moves w tag is) once told
