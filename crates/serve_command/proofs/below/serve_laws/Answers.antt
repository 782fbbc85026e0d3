use Rattle.serve_command.proofs.Services.{all_rightly}
use Rattle.serve_command.proofs.below.serve_laws.Goals as goal

pub returns : goal.returns
returns c = record {
  rightly = λ document session boards links stands over.
      let settings = session.settings in
      let some = (c.a_session_keeps_its_limits.ensures document session stands).settings.some_rounds in
      all_rightly settings
      (λ spec served link is. record {
        executed_some = c.a_board_that_tells_executed_what_was_replied.ensures.executed settings spec served link is;
        summed = c.a_board_line_counts_the_bodies_of_its_connections.ensures.sum spec served;
        waited = c.a_board_waited_for_what_was_given_up.ensures.line settings spec served link is;
        heard = c.replies_of_a_served_board_came_over_its_link.ensures settings spec served link is;
        lost = c.a_served_board_loses_bodies_only_with_its_link.ensures.line settings spec served link is;
        live = λ calm. c.a_faithful_link_serves_all.ensures.live settings spec served link some calm is;
      })
      session.boards boards links over;
  numbers = c.board_lines_tell_the_numbers_of_answers.ensures;
  frames = λ document session links came back connections lines is stands position spec link at there.
      let settings = session.settings in
      let specs = session.boards in
      let some = (c.a_session_keeps_its_limits.ensures document session stands).settings.some_rounds in record {
        rise = c.each_frame_has_a_place_of_its_own.ensures.rise settings specs links came back connections lines is
            position spec link at there;
        differ = c.each_frame_has_a_place_of_its_own.ensures.differ settings specs links came back connections lines is
            position spec link at there;
        replied_placed = c.codes_tell_of_places.ensures.replied settings specs links came back connections lines is
            position spec link at there;
        timed_out_placed = c.codes_tell_of_places.ensures.timed_out settings specs links came back connections lines is
            position spec link at there;
        unsent_unplaced = c.codes_tell_of_places.ensures.unsent settings specs links came back connections lines is
            position spec link at there;
        replied = c.code_0_answers_what_was_executed.ensures settings specs links came back connections lines is
            position spec link at there;
        carried = c.code_0_answers_what_the_link_brought.ensures settings specs links came back connections lines is
            position spec link at there;
        gave_up = c.codes_1_and_2_answer_after_the_rounds.ensures settings specs links came back connections lines is
            position spec link at there;
        lost = c.code_3_answers_where_the_link_failed.ensures settings specs links came back connections lines is
            position spec link at there;
        none_lost = c.no_frame_is_given_up_or_lost_over_a_faithful_link.ensures settings specs links came back
            connections lines is some position spec link at there;
      };
  unasked = c.codes_for_which_the_hub_is_not_asked.ensures;
  ruled = c.the_rules_of_planning_decide_of_codes.ensures;
}
