use Rattle.std.proofs.Common.{[], refl}
use Rattle.lane_record.specs.Claims.{claims}
use Rattle.lane_record.proofs.Finished.{first_sends_count, of_asks, outcomes_taken, stands_at}
use Rattle.lane_record.proofs.laws.finished.a_finished_record_tells_all.Goals as goal

pub returns-clause-outcomes : goal.returns-clause-outcomes
returns-clause-outcomes c = outcomes_taken

pub returns-clause-places : goal.returns-clause-places
returns-clause-places c = first_sends_count

pub returns-clause-of_asks : goal.returns-clause-of_asks
returns-clause-of_asks c = λ items. of_asks items [] (claims items) refl

pub returns-clause-at_places : goal.returns-clause-at_places
returns-clause-at_places c = stands_at
