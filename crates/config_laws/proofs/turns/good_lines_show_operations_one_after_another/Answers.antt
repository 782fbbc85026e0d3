use Rattle.std.proofs.Common.{[], ◌∷◌}
use Rattle.transcript.specs.Lines.{lines_from}
use Rattle.config_laws.proofs.TurnLines.{turns_shown}
use Rattle.config_laws.proofs.turns.good_lines_show_operations_one_after_another.Goals as goal

pub returns : goal.returns
returns c = λ settings specs steps runs links is tell made words can on one status.
    let done = (c.the_status_tells_whether_all_was_done.ensures.done (lines_from runs 0 (steps ∷ []))).0 status in
    turns_shown c.a_body_is_executed_in_order.ensures.success c.a_body_is_executed_in_order.ensures.failed
    c.the_answers_are_the_only_ones.ensures c.a_reply_answers_its_body.ensures.requests
    c.a_reply_answers_its_body.ensures.any c.words_stay_words.ensures.after c.words_stay_words.ensures.after_all
    c.joining_is_a_function.ensures.none c.joining_is_a_function.ensures.joined c.operations_of_words_are_packed.ensures
    settings specs steps runs links is
    (c.where_all_was_done_a_client_alone_has_one_run.ensures settings specs (steps ∷ []) runs links is status) tell made
    words can on one done.0
