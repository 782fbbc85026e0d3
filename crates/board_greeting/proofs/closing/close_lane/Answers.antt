use Rattle.board_greeting.specs.Reports.{shown_by}
use Rattle.board_greeting.proofs.Lanes.{at_end}
use Rattle.board_greeting.proofs.closing.close_lane.Goals as goal

pub returns-clause-ended : goal.returns-clause-ended
returns-clause-ended g c =
    let lane = c.args.lane in
    λ settings spec to. rw c.close.ensures.link (at_end c.a_lane_is_a_sound_one.ensures settings spec lane
    (shown_by g.L.Link lane.link) to c.is_sound.ensures c.has_paid.ensures c.has_heard.ensures
    c.has_listened.ensures c.has_run.ensures)
