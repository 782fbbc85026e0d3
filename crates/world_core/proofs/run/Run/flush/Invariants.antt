use Rattle.world_model.specs.Sends.{pending}
use Rattle.world_core.specs.Steps.{IsFlushing, world_of}
use Rattle.world_core.proofs.run.Run.flush.Given as goal

abbrev pub invariant-loop-send : goal.invariant-loop-send
invariant-loop-send l = IsFlushing (world_of l.fn.self) (world_of l.self)

abbrev pub decreases-loop-send : goal.decreases-loop-send
decreases-loop-send l = pending l.self.hub
