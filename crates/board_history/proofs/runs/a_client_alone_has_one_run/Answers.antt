use Rattle.board_history.proofs.LaneShown.{alone_runs, whole_runs}
use Rattle.board_history.proofs.runs.a_client_alone_has_one_run.Goals as goal

pub returns : goal.returns
returns c = λ settings board specs scripts runs links some calm is.
    alone_runs c.a_client_alone_is_in_turn.ensures c.a_session_has_one_run.ensures.one settings board specs scripts runs
    links is
    (whole_runs c.bodies_stand_dispatch_by_dispatch.ensures.bodies settings board specs scripts runs links some calm is)
