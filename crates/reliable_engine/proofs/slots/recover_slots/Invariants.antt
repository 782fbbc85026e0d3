use Rattle.world_model.specs.Hub.{recover}
use Rattle.reliable_engine.proofs.InSlots.{IsChangedTo}
use Rattle.reliable_engine.proofs.slots.recover_slots.Given as goal

abbrev pub invariant-loop-place : goal.invariant-loop-place
invariant-loop-place l = IsChangedTo (recover l.told) l.low l.place l.fn.slots l.slots
