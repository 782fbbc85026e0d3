use Rattle.std.proofs.Common.{◌≡◌, ℕ, ◌+◌, subst, arith}
use Rattle.board_history.proofs.BusResults.{pieces_fit}
use Rattle.board_history.proofs.BusLines.{CanShow, ask_allowed, session_holds}
use Rattle.board_history.proofs.Readiness.{all_verbs_kept}
use Rattle.transcript.specs.Lines.{line_of}
use Rattle.board_history.specs.LinkRuns.{IsUngarbledLine, IsUngarbledResult, IsUngarbledWhereTold}
use Rattle.board_history.proofs.Lines.{bus_is_ungarbled, told_shows_at, ungarbled_allowed}
use Rattle.board_history.proofs.ToldLines.{as_many, where_told}
use Rattle.board_history.proofs.runs.no_line_is_garbled.Goals as goal

pub returns : goal.returns
returns c = λ settings specs scripts runs links is own made words can.
    session_holds scripts runs (IsUngarbledWhereTold runs links)
    (λ client steps before later ask run at same keeps there.
    where_told (IsUngarbledLine (line_of client before ask run)) runs links
    (as_many settings 0 specs scripts runs links is) own ask.op.board run there
    (λ link board also tells.
    let zeroth : 0 + ask.op.board ≡ ask.op.board = omega arith in
    ask_allowed IsUngarbledResult bus_is_ungarbled
    (λ part one pieces told asked. pieces_fit IsUngarbledResult bus_is_ungarbled c.each_request_has_one_answer.ensures
    c.each_answer_is_that_of_its_request.ensures c.one_list_for_words.ensures.requests part one pieces told asked.each)
    scripts run client steps before later ask.op ask.denied
    (subst (λ (b : ℕ). CanShow IsUngarbledResult b scripts run) zeroth
    (told_shows_at IsUngarbledResult c.a_reply_answers_its_body.ensures.requests c.a_reply_answers_its_body.ensures.any
    c.words_stay_words.ensures.after c.words_stay_words.ensures.after_all c.joining_is_a_function.ensures.none
    c.joining_is_a_function.ensures.joined c.bodies_stand_dispatch_by_dispatch.ensures.bodies
    c.packed_bodies_spell_requests.ensures c.operations_of_words_are_packed.ensures settings 0 specs scripts runs links
    is
    made words can (ungarbled_allowed runs) ask.op.board run link board there also tells))
    at same keeps))
    (all_verbs_kept scripts can)
