use Rattle.links.specs.States.{world_of_both}
use Rattle.links.proofs.States.{begins_reached, handed_reached, heard_reached, offered_reached, out_reached}
use Rattle.links.proofs.States.{quiet_reached, sent_reached}
use Rattle.links.proofs.laws.each_event_leads_to_a_state_of_a_run.Goals as goal

pub returns-clause-begins : goal.returns-clause-begins
returns-clause-begins c = λ window rounds board air begins. begins_reached window rounds board air
    (c.a_greeting_joins.ensures window rounds board air begins)
    (c.waiting_sends_change_no_run.ensures.begins window rounds board air)

pub returns-clause-offered : goal.returns-clause-offered
returns-clause-offered c = λ begin so_far hub told offered is can out. offered_reached begin so_far hub told offered is
    (c.each_event_keeps_them_joined.ensures.offered hub told offered is.joined can)
    (c.waiting_sends_change_no_run.ensures.offered begin (world_of_both hub told so_far) offered can is.state out)

pub returns-clause-sent : goal.returns-clause-sent
returns-clause-sent c = λ begin so_far hub told next is send.
    sent_reached c.a_give_up_ends_all_waiting.ensures.nothing_to_send begin so_far hub told next is send
    (c.each_event_keeps_them_joined.ensures.sent hub told next is.joined send)
    (c.waiting_sends_change_no_run.ensures.sent begin (world_of_both hub told so_far) next is.state send)

pub returns-clause-heard : goal.returns-clause-heard
returns-clause-heard c = heard_reached c.waiting_sends_change_no_run.ensures.moved
    c.each_event_keeps_them_joined.ensures.heard

pub returns-clause-handed : goal.returns-clause-handed
returns-clause-handed c = λ begin so_far hub told bytes is none out handed.
    handed_reached c.sends_go_one_by_one.ensures.end begin so_far hub told bytes is none out handed
    (c.each_event_keeps_them_joined.ensures.handed hub told bytes is.joined handed)

pub returns-clause-quiet : goal.returns-clause-quiet
returns-clause-quiet c = λ begin so_far hub told is none out waiting. quiet_reached c.sends_go_one_by_one.ensures.end
    c.a_give_up_ends_all_waiting.ensures.at_once c.a_give_up_ends_all_waiting.ensures.nobody_waits begin so_far hub told
    is none out waiting (c.each_event_keeps_them_joined.ensures.quiet hub told is.joined)

pub returns-clause-handed_out : goal.returns-clause-handed_out
returns-clause-handed_out c = λ begin so_far hub told is.
    out_reached c.each_event_keeps_them_joined.ensures.handed_out c.each_event_keeps_them_joined.ensures.late begin
    so_far hub told is
    (c.waiting_sends_change_no_run.ensures.fates begin (world_of_both hub told so_far) is.state)
