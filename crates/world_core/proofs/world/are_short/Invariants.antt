use Rattle.std.proofs.Common.{take}
use Rattle.std.specs.List.{AllByRecursion}
use Rattle.world_core.specs.Runs.{IsShortMove}
use Rattle.world_core.proofs.world.are_short.Given as goal

abbrev pub invariant-loop-next : goal.invariant-loop-next
invariant-loop-next l = AllByRecursion IsShortMove (take l.next-index l.moves)
