use Rattle.audit_laws.proofs.Places.{counts_hold, places_hold}
use Rattle.audit_laws.proofs.place_laws.places_and_counts_of_a_run_hold.Goals as goal

pub returns : goal.returns
returns c = record {
  places = λ session steps runs links told whole.
      places_hold c.each_body_has_a_piece.ensures.function c.the_first_sends_are_the_order.ensures
      c.a_board_line_counts_each_first_send_once.ensures.sum session steps runs links told whole;
  counts = λ session steps runs links told whole.
      counts_hold c.each_body_has_a_piece.ensures.function c.the_first_sends_are_the_order.ensures
      c.a_board_line_counts_each_first_send_once.ensures.sum session steps runs links told whole;
}
