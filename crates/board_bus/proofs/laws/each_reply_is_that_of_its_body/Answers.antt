use Rattle.board_bus.proofs.Bodies.{replay-place}
use Rattle.board_bus.proofs.laws.each_reply_is_that_of_its_body.Goals as goal

pub returns : goal.returns
returns c = replay-place
