use Rattle.board_history.proofs.LaneShown.{own_runs}
use Rattle.board_history.proofs.runs.clients_with_boards_of_their_own_have_one_run.Goals as goal

pub returns : goal.returns
returns c = λ settings board specs scripts runs links some calm is own.
    own_runs settings board specs scripts runs links is
    (c.faithful_links_answer_all.ensures settings board specs scripts runs links some calm is)
    (c.a_client_alone_has_one_run.ensures settings board specs scripts runs links some calm is) own
