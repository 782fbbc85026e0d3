use Rattle.transcript.specs.Lines.{lines_from}
use Rattle.std.proofs.Common.{[], ◌∷◌}
use Rattle.config_laws.proofs.LineReads.{session_shown}
use Rattle.config_laws.proofs.reads.good_reads_show_the_words_that_boards_open_with.Goals as goal

pub returns : goal.returns
returns c = λ settings specs steps runs links is tell made words can reads status.
    session_shown c.a_reply_answers_its_body.ensures.requests c.a_reply_answers_its_body.ensures.any
    c.words_stay_words.ensures.after c.words_stay_words.ensures.after_all c.joining_is_a_function.ensures.none
    c.joining_is_a_function.ensures.joined
    (λ cells part answers i op holds ranges reads joined at good.
    c.a_body_of_word_reads_answers_what_is_there.ensures.answers cells part answers i op holds ranges reads joined at
    good)
    c.a_body_of_word_reads_answers_what_is_there.ensures.bus c.operations_of_words_are_packed.ensures settings specs
    steps runs links is
    (c.where_all_was_done_a_client_alone_has_one_run.ensures settings specs (steps ∷ []) runs links is status) tell made
    words can reads
    ((c.the_status_tells_whether_all_was_done.ensures.done (lines_from runs 0 (steps ∷ []))).0 status)
