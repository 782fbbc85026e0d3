use Rattle.std.proofs.Common.{ap}
use Rattle.board_bus.specs.Bodies.{replay}
use Rattle.world_model.specs.Board.{Board, bodies_executed}
use Rattle.world_model.specs.Hearings.{after}
use Rattle.world_model.proofs.BoardSteps.{bus_on, grew}
use Rattle.world_model.proofs.laws.boards.the_bus_is_the_replay_of_the_log.Goals as goal

pub returns-clause-whole : goal.returns-clause-whole
returns-clause-whole c =
    λ board datagrams. ap (λ (x : Board). (replay x.opening (bodies_executed (after board datagrams))).cells)
    (grew board datagrams).1

pub returns-clause-later : goal.returns-clause-later
returns-clause-later c = λ board datagrams later is. bus_on board (after board datagrams) later is
