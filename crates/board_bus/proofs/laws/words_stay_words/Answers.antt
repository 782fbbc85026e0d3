use Rattle.board_bus.proofs.Openings.{opening-words}
use Rattle.board_bus.proofs.Bodies.{run_body-words, replay-words}
use Rattle.board_bus.proofs.laws.words_stay_words.Goals as goal

pub returns-clause-opening : goal.returns-clause-opening
returns-clause-opening c = opening-words

pub returns-clause-after : goal.returns-clause-after
returns-clause-after c = run_body-words c.requests_are_read.ensures

pub returns-clause-after_all : goal.returns-clause-after_all
returns-clause-after_all c = replay-words c.requests_are_read.ensures
