use Rattle.std.proofs.Common.{Option, subst}
use Rattle.links.specs.Telling.{Telling}
use Rattle.hub_lane.specs.Lanes.{IsLane}
use Rattle.hub_lane.proofs.Truth.{whole}
use Rattle.hub_lane.proofs.laws.a_finished_lane_is_whole.Goals as goal

pub returns : goal.returns
returns c = λ settings status hub items outcomes lates give_ups down spent telling faults quiets receives finished is
    listened.
    whole settings status hub items outcomes lates give_ups down spent telling faults quiets receives
    c.a_finished_record_tells_all.ensures.outcomes c.a_finished_record_tells_all.ensures.places
    c.a_hub_has_sent_what_a_finished_record_tells.ensures.sent c.a_lane_over_a_link_that_tells_is_true.ensures
    (λ t told settled. c.a_timed_out_body_has_its_late_answer.ensures settings status hub items outcomes lates give_ups
    down spent t faults quiets
    (subst (λ (r : Option Telling). IsLane settings status hub items outcomes lates give_ups down spent r faults quiets)
    told is) settled)
    finished is listened
