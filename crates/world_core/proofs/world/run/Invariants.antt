use Rattle.std.proofs.Common.{[]}
use Rattle.world_model.specs.World.{start}
use Rattle.world_core.specs.Steps.{IsRunning, world_of}
use Rattle.world_core.proofs.world.run.Given as goal

abbrev pub invariant-loop-at : goal.invariant-loop-at
invariant-loop-at l =
    IsRunning (start l.fn.settings.window l.fn.settings.rounds l.fn.board []) l.moves l.at (world_of l.run)
