use Rattle.world_model.proofs.Greetings.{heard_grew, replies_grew}
use Rattle.world_model.proofs.laws.links.a_link_forgets_nothing.Goals as goal

pub returns-clause-log : goal.returns-clause-log
returns-clause-log c = λ old new heard. (heard_grew old new heard).board.log

pub returns-clause-air : goal.returns-clause-air
returns-clause-air c = λ old new heard. (heard_grew old new heard).air

pub returns-clause-replies : goal.returns-clause-replies
returns-clause-replies c = λ old new heard. replies_grew c.laws_below.ensures old.board new.board
    (heard_grew old new heard).board

pub returns-clause-board : goal.returns-clause-board
returns-clause-board c = λ old new heard. (heard_grew old new heard).board.rest
