use Rattle.board_bus.proofs.Bodies.{replay-append-cells, replay-append-replies, replay-length}
use Rattle.board_bus.proofs.laws.replay_goes_on.Goals as goal

pub returns-clause-bus : goal.returns-clause-bus
returns-clause-bus c = replay-append-cells

pub returns-clause-replies : goal.returns-clause-replies
returns-clause-replies c = replay-append-replies

pub returns-clause-one_each : goal.returns-clause-one_each
returns-clause-one_each c = replay-length
