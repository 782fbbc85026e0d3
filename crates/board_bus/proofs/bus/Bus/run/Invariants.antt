use Rattle.std.proofs.Common.{length}
use Rattle.std.specs.Vec.{vec_capacity}
use Rattle.board_bus.proofs.Requests.{RunsOn}
use Rattle.board_bus.proofs.bus.Bus.run.Given as goal

abbrev pub invariant-loop-rest : goal.invariant-loop-rest
invariant-loop-rest l =
    RunsOn l.initial.self l.self l.initial.out.items l.out.items (vec_capacity l.initial.out) (vec_capacity l.out)
    l.body l.rest

abbrev pub decreases-loop-rest : goal.decreases-loop-rest
decreases-loop-rest l = length l.rest
