use Rattle.board_greeting.proofs.Sound.{sound_lane}
use Rattle.board_greeting.proofs.sound_lanes.a_lane_is_a_sound_one.Goals as goal

pub returns : goal.returns
returns c =
    sound_lane c.a_lane_over_a_link_that_tells_is_true.ensures c.a_timed_out_body_has_its_late_answer.ensures
