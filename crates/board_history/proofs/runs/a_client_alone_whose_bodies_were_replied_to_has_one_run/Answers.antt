use Rattle.board_history.proofs.LaneAlone.{alone_replied}
use Rattle.board_history.proofs.runs.a_client_alone_whose_bodies_were_replied_to_has_one_run.Goals as goal

pub returns : goal.returns
returns c = alone_replied c.a_client_alone_is_in_turn.ensures c.a_session_has_one_run.ensures.one
