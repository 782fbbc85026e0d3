use Rattle.session_serve.proofs.below.laws_of_reports.Goals as goal

pub returns : goal.returns
returns c = record {
  left = c.connections_of_a_hub_leave_what_they_submitted.ensures;
  served = c.a_finished_lane_was_served.ensures;
  line = c.a_finished_lane_tells_the_numbers_of_its_line.ensures;
  merge = c.a_board_executes_a_merge_at_any_moment.ensures.merge;
}
