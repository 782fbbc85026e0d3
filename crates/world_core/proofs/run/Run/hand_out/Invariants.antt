use Rattle.std.proofs.Common.{◌≡◌, [], length}
use Rattle.world_model.specs.World.{handed_out}
use Rattle.world_core.specs.Steps.{world_of}
use Rattle.world_core.proofs.run.Run.hand_out.Given as goal

abbrev pub invariant-loop-fate : goal.invariant-loop-fate
invariant-loop-fate l = handed_out (world_of l.self) ≡ handed_out (world_of l.fn.self)

abbrev pub decreases-loop-fate : goal.decreases-loop-fate
decreases-loop-fate l = length l.self.hub.fates

abbrev pub invariant-loop-late : goal.invariant-loop-late
invariant-loop-late l = (handed_out (world_of l.self) ≡ handed_out (world_of l.fn.self)) × (l.self.hub.fates ≡ [])

abbrev pub decreases-loop-late : goal.decreases-loop-late
decreases-loop-late l = length l.self.hub.lates
