use Rattle.run_laws.proofs.Buses.{all_made}
use Rattle.run_laws.proofs.Names.{on_these, own_names, runs_of_boards}
use Rattle.run_laws.proofs.laws.runs_over_links_are_runs_of_a_session.Goals as goal

pub returns : goal.returns
returns c = λ session steps runs links can are.
    let settings = session.settings in
    let boards = session.boards in
    let within = c.a_session_keeps_its_limits.ensures can.document session can.is_session in
    let made = all_made boards within.boards can.buses in
    let words = c.the_ranges_of_a_session_name_words.ensures can.document session can.is_session in
    let names = own_names settings 0 boards steps runs links are
    (c.the_boards_of_a_session_have_their_own_names.ensures can.document session can.is_session) in
    let some = within.settings.some_rounds in record {
      boards = are;
      places = c.lines_show_the_order_of_each_board.ensures settings boards steps runs links are names;
      denied = c.lines_tell_what_is_denied.ensures.rules steps runs
          (on_these boards runs (runs_of_boards settings 0 boards steps runs links are) steps can.on_boards);
      unplaced = c.lines_tell_what_is_denied.ensures.places steps runs;
      answered = c.no_line_is_garbled.ensures settings boards steps runs links are names made words can.executable;
      rounds = c.lines_show_the_rounds_of_the_session.ensures settings boards steps runs links are can.executable;
      waited = c.board_lines_waited_for_their_time_outs.ensures settings 0 boards steps runs links are;
      heard = c.board_lines_count_replies_that_came.ensures settings 0 boards steps runs links are;
      codes = λ calm. c.faithful_lines_fail_by_codes_of_the_bus_alone.ensures settings boards steps runs links some calm
          are made words can.executable;
      whole = λ calm. c.faithful_links_answer_all.ensures settings 0 boards steps runs links some calm are;
      alone = λ calm. c.a_client_alone_has_one_run.ensures settings 0 boards steps runs links some calm are;
      settled = λ zero.
          c.where_all_was_done_a_client_alone_has_one_run.ensures settings boards steps runs links are zero;
    }
