use Rattle.reliable_engine.proofs.TagAccounts.{accounted, no_more_fates}
use Rattle.reliable_engine.proofs.laws.an_offered_body_has_one_fate.Goals as goal

pub returns-clause-account : goal.returns-clause-account
returns-clause-account c = accounted

pub returns-clause-no_more : goal.returns-clause-no_more
returns-clause-no_more c = no_more_fates
