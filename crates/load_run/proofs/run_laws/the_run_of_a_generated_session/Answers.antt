use Rattle.load_run.specs.Generated.{boards, settings, steps}
use Rattle.load_run.proofs.Loads.{made_of, one_name}
use Rattle.load_run.proofs.run_laws.the_run_of_a_generated_session.Goals as goal

pub returns : goal.returns
returns c = λ count runs links most over.
    let can = c.a_generated_session_can_be_run.ensures in
    let summed = c.a_summary_tells_the_run_of_the_board.ensures count runs links most over in
    let own = one_name runs summed.run summed.one in
    let some = can.limits_of_settings.some_rounds in
    let made = made_of (boards count) (can.here count most) in record {
      summed = summed;
      places = c.lines_show_the_order_of_each_board.ensures settings (boards count) (steps count) runs links over own;
      answered = c.no_line_is_garbled.ensures settings (boards count) (steps count) runs links over own made
          (can.words count) (can.executable count);
      rounds = c.lines_show_the_rounds_of_the_session.ensures settings (boards count) (steps count) runs links over
          (can.executable count);
      waited = c.board_lines_waited_for_their_time_outs.ensures settings 0 (boards count) (steps count) runs links over;
      heard = c.board_lines_count_replies_that_came.ensures settings 0 (boards count) (steps count) runs links over;
      codes = λ calm. c.faithful_lines_fail_by_codes_of_the_bus_alone.ensures settings (boards count) (steps count) runs
          links some calm over made (can.words count) (can.executable count);
      whole =
          λ calm. c.faithful_links_answer_all.ensures settings 0 (boards count) (steps count) runs links some calm over;
      alone = λ calm. c.a_client_alone_has_one_run.ensures settings 0 (boards count) (steps count) runs links some calm
          over;
      words = λ done. c.the_total_where_all_are_done.ensures.words count runs links most over done;
      total = λ done. c.the_total_where_all_are_done.ensures.total count runs links most over done;
      asked = λ done. c.the_total_where_all_are_done.ensures.places count runs links most over done;
    }
