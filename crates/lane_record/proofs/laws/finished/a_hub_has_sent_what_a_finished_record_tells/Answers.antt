use Rattle.lane_record.proofs.Finished.{finished_hub}
use Rattle.lane_record.proofs.laws.finished.a_hub_has_sent_what_a_finished_record_tells.Goals as goal

pub returns-clause-queue : goal.returns-clause-queue
returns-clause-queue c = λ items outcomes sent queue open_places is all agrees.
    (finished_hub items outcomes sent queue open_places is all agrees).nothing_queued

pub returns-clause-sent : goal.returns-clause-sent
returns-clause-sent c = λ items outcomes sent queue open_places is all agrees.
    (finished_hub items outcomes sent queue open_places is all agrees).bodies
