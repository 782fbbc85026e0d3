use Rattle.board_history.proofs.Placed.{are_planned, are_ordered, own_names}
use Rattle.board_history.proofs.run_laws.a_session_shows_all_places.Goals as goal

pub returns : goal.returns
returns c specs scripts runs is own =
    c.lines_show_all_places.ensures scripts runs (own_names 0 specs scripts runs is own)
    (are_planned 0 specs scripts runs is) (are_ordered 0 specs scripts runs is)
