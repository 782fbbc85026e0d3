use Rattle.std.proofs.Common.{sym, subst}
use Rattle.world_model.specs.Messages.{to_hub}
use Rattle.world_model.specs.Hub.{hear_quiet, take_message}
use Rattle.world_model.specs.Sends.{bytes_to_send}
use Rattle.links.specs.States.{IsReached}
use Rattle.links.specs.Telling.{IsGot, IsQuiet, IsReceived, IsSent}
use Rattle.links.proofs.Calls.{after_call}
use Rattle.links.proofs.laws.each_call_leads_to_a_state_of_a_run.Goals as goal

pub returns-clause-sent : goal.returns-clause-sent
returns-clause-sent c =
    let leads = c.each_event_leads_to_a_state_of_a_run.ensures in
    λ begin so_far hub next before now old new is send call.
    after_call (IsReached begin so_far hub) (IsReached begin so_far next.hub)
    (IsSent (bytes_to_send next.hub next.send) before now) old new is call
    (λ t u reached sent. subst (IsReached begin so_far next.hub) (sym sent.told)
    (leads.sent begin so_far hub t.told next reached send))

pub returns-clause-got : goal.returns-clause-got
returns-clause-got c =
    let leads = c.each_event_leads_to_a_state_of_a_run.ensures in
    λ begin so_far hub bytes before now old new is none out call.
    after_call (IsReached begin so_far hub) (IsReached begin so_far (take_message hub (to_hub bytes)))
    (IsGot bytes before now) old new is call (λ t u reached got. leads.handed begin so_far hub u.told bytes
    (leads.heard begin so_far hub t.told u.told reached none out got.received.by_board)
    none out (record { place = got.place; at = got.there }))

pub returns-clause-quiet : goal.returns-clause-quiet
returns-clause-quiet c =
    let leads = c.each_event_leads_to_a_state_of_a_run.ensures in
    λ begin so_far hub before now old new is none out waiting call.
    after_call (IsReached begin so_far hub) (IsReached begin so_far (hear_quiet hub)) (IsQuiet before now) old new
    is call (λ t u reached quiet. leads.quiet begin so_far hub u.told
    (leads.heard begin so_far hub t.told u.told reached none out quiet.received.by_board) none out waiting)

pub returns-clause-other : goal.returns-clause-other
returns-clause-other c =
    let leads = c.each_event_leads_to_a_state_of_a_run.ensures in
    λ begin so_far hub by_hub before now old new is none out call.
    after_call (IsReached begin so_far hub) (IsReached begin so_far hub) (IsReceived by_hub before now) old new
    is call (λ t u reached received. leads.heard begin so_far hub t.told u.told reached none out received.by_board)
