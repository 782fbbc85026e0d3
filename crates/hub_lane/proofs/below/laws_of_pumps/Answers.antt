use Rattle.hub_lane.proofs.below.laws_of_pumps.Goals as goal

pub returns : goal.returns
returns c = record {
  fates = record {
    fates = c.a_send_leaves_the_fates.ensures.fates;
    lates = c.a_send_leaves_the_fates.ensures.lates;
  };
  late = c.laws_of_late_answers.ensures;
  bodies = c.only_an_offer_makes_more_bodies.ensures.sent;
  agrees = c.a_send_settles_nothing.ensures.agrees;
  message_bodies = c.only_an_offer_makes_more_bodies.ensures.message;
  quiet_bodies = c.only_an_offer_makes_more_bodies.ensures.quiet;
  message = c.what_a_hub_hears_settles_asks.ensures.message;
  quiet = c.what_a_hub_hears_settles_asks.ensures.quiet;
  replied = c.outcomes_go_into_the_book.ensures.replied;
  gave_up = c.outcomes_go_into_the_book.ensures.gave_up;
  lost = c.outcomes_go_into_the_book.ensures.lost;
  lost_agrees = c.a_failed_link_loses_what_waits.ensures.agrees;
  lost_keeps = c.a_failed_link_loses_what_waits.ensures.keeps;
  lost_adds = c.a_failed_link_loses_what_waits.ensures.adds;
}
