use Rattle.std.proofs.Common.{◌≡◌, ℕ, ◌+◌, subst, arith}
use Rattle.board_history.proofs.BusResults.{pieces_fit}
use Rattle.board_history.proofs.BusLines.{CanShow, session_allowed}
use Rattle.board_history.proofs.Readiness.{all_verbs_kept, are_ready}
use Rattle.board_history.specs.Lines.{IsBusResult}
use Rattle.board_history.proofs.Lines.{all_here, shows_at, whole_allowed}
use Rattle.board_history.proofs.LaneShown.{whole_runs}
use Rattle.board_history.proofs.runs.faithful_lines_fail_by_codes_of_the_bus_alone.Goals as goal

pub returns : goal.returns
returns c = λ settings specs scripts runs links some calm is made words can.
    let here = all_here settings 0 specs scripts runs links is made calm in
    let ready = are_ready c.operations_of_words_are_packed.ensures 0 specs scripts here words can in
    let whole = whole_runs c.bodies_stand_dispatch_by_dispatch.ensures.bodies settings 0 specs scripts runs links some
    calm is in
    session_allowed IsBusResult (λ r bus. bus)
    (λ part op pieces told asked. pieces_fit IsBusResult (λ r bus. bus) c.each_request_has_one_answer.ensures
    c.each_answer_is_that_of_its_request.ensures c.one_list_for_words.ensures.requests part op pieces told asked.each)
    scripts runs
    (λ k run at.
    let same : 0 + k ≡ k = omega arith in
    subst (λ (b : ℕ). CanShow IsBusResult b scripts run) same
    (shows_at IsBusResult c.a_reply_answers_its_body.ensures.requests c.a_reply_answers_its_body.ensures.any
    c.words_stay_words.ensures.after c.words_stay_words.ensures.after_all c.joining_is_a_function.ensures.none
    c.joining_is_a_function.ensures.joined c.bodies_stand_dispatch_by_dispatch.ensures.bodies
    c.packed_bodies_spell_requests.ensures settings 0 specs scripts runs links is ready
    (whole_allowed 0 specs scripts runs links ready whole) k run at))
    (all_verbs_kept scripts can)
