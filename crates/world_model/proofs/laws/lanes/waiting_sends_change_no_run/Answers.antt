use Rattle.std.proofs.Common.{refl}
use Rattle.world_model.proofs.Waiting.{offered_same, offered_waits, sent_waits, fates_wait, moved_waits}
use Rattle.world_model.proofs.laws.lanes.waiting_sends_change_no_run.Goals as goal

pub returns-clause-offered : goal.returns-clause-offered
returns-clause-offered c = offered_waits

pub returns-clause-sent : goal.returns-clause-sent
returns-clause-sent c = sent_waits

pub returns-clause-fates : goal.returns-clause-fates
returns-clause-fates c = fates_wait

pub returns-clause-moved : goal.returns-clause-moved
returns-clause-moved c = moved_waits

pub returns-clause-same : goal.returns-clause-same
returns-clause-same c w o given_up told = offered_same w o w.hub.gave_up refl given_up told
