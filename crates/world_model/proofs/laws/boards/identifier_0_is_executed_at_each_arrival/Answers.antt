use Rattle.std.proofs.Common.{◌∙◌, ap}
use Rattle.world_model.specs.Board.{expected_identifier}
use Rattle.world_model.proofs.BoardTurns.{came_again, left_next}
use Rattle.world_model.proofs.laws.boards.identifier_0_is_executed_at_each_arrival.Goals as goal

pub returns-clause-replied : goal.returns-clause-replied
returns-clause-replied c =
    λ board datagram order body times said short. (came_again board datagram order body times said short).replied

pub returns-clause-log : goal.returns-clause-log
returns-clause-log c =
    λ board datagram order body times said short. (came_again board datagram order body times said short).board

pub returns-clause-next : goal.returns-clause-next
returns-clause-next c = λ board datagram order body times said short.
    ap expected_identifier (came_again board datagram order body times said short).board ∙ left_next board order body times
