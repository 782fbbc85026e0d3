use Rattle.board_history.proofs.Answering.{run_answered}
use Rattle.board_history.proofs.Shown.{only_run}
use Rattle.board_history.proofs.run_laws.each_body_is_answered.Goals as goal

pub returns : goal.returns
returns c = λ spec board scripts run is opens asks.
    run_answered c.a_reply_answers_its_body.ensures.requests c.a_reply_answers_its_body.ensures.any
    c.words_stay_words.ensures.after c.words_stay_words.ensures.after_all c.joining_is_a_function.ensures.none
    c.joining_is_a_function.ensures.joined
    spec board scripts run
    (only_run c.a_history_of_clients_in_turn_is_the_only_one.ensures spec board scripts run is) opens asks
