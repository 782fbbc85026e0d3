use Rattle.board_history.proofs.LaneShown.{all_ordered}
use Rattle.board_history.proofs.runs.lines_show_the_order_of_each_board.Goals as goal

pub returns : goal.returns
returns c = λ settings specs scripts runs links is named.
    let all = all_ordered settings 0 specs scripts runs links is in
    c.lines_show_all_places.ensures scripts runs named all.planned all.orders
