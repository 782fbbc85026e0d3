use Rattle.board_history.proofs.PlacesShown.{all_shown}
use Rattle.board_history.proofs.place_laws.lines_show_all_places.Goals as goal

pub returns : goal.returns
returns c scripts runs own plans ordered =
    all_shown scripts runs
    (λ board run place at. c.lines_show_the_places_of_bodies.ensures scripts runs board run place own plans at)
    plans ordered
