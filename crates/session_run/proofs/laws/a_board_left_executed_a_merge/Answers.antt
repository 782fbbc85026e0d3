use Rattle.session_run.proofs.Left.{executed_asked}
use Rattle.session_run.proofs.laws.a_board_left_executed_a_merge.Goals as goal

pub returns : goal.returns
returns c = λ spec board scripts link left.
    executed_asked c.a_lane_over_a_link_that_tells_is_true.ensures c.a_lane_sends_a_merge_at_any_moment.ensures.first
    spec board scripts link.telling left.stood
