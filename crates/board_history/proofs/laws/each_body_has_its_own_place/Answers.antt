use Rattle.board_history.proofs.OwnPlaces.{own_places}
use Rattle.board_history.proofs.laws.each_body_has_its_own_place.Goals as goal

pub returns : goal.returns
returns c = λ run one. own_places run.parts one
