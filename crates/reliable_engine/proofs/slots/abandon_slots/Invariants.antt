use Rattle.world_model.specs.Hub.{abandoned_place}
use Rattle.reliable_engine.proofs.InSlots.{IsChangedTo}
use Rattle.reliable_engine.proofs.slots.abandon_slots.Given as goal

abbrev pub invariant-loop-place : goal.invariant-loop-place
invariant-loop-place l = IsChangedTo abandoned_place l.low l.place l.fn.slots l.slots
