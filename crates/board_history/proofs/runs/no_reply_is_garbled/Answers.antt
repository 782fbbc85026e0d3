use Rattle.board_history.proofs.LaneShown.{ungarbled}
use Rattle.board_history.proofs.runs.no_reply_is_garbled.Goals as goal

pub returns : goal.returns
returns c = ungarbled (c.a_reply_answers_its_body.ensures.requests) (c.a_reply_answers_its_body.ensures.any)
    (c.words_stay_words.ensures.after) (c.words_stay_words.ensures.after_all) (c.joining_is_a_function.ensures.none)
    (c.joining_is_a_function.ensures.joined)
