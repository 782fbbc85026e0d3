use Rattle.board_history.proofs.LaneAlone.{all_alone}
use Rattle.board_history.proofs.runs.where_all_was_done_a_client_alone_has_one_run.Goals as goal

pub returns : goal.returns
returns c = λ settings specs scripts runs links is status.
    all_alone c.a_client_alone_whose_bodies_were_replied_to_has_one_run.ensures settings 0 specs scripts runs links is
    (c.where_all_was_done_each_body_was_replied_to.ensures settings specs scripts runs links is status)
