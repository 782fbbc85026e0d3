use Rattle.board_bus.specs.Ranges.{opening_bus}
use Rattle.board_bus.proofs.Openings.{opening-words}
use Rattle.board_bus.proofs.Answered.{replay-answers}
use Rattle.board_bus.proofs.laws.an_opening_bus_answers_bodies.Goals as goal

pub returns-clause-words : goal.returns-clause-words
returns-clause-words c = opening-words c.args.ranges.now c.start_with_words.ensures

pub returns-clause-replies : goal.returns-clause-replies
returns-clause-replies c = λ bodies fits.
    replay-answers c.requests_are_read.ensures (opening_bus c.args.ranges.now) bodies
    (opening-words c.args.ranges.now c.start_with_words.ensures)
    fits
