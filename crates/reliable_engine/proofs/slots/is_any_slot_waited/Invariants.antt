use Rattle.std.proofs.Common.{◌≡◌, ◌+◌, ◌-◌}
use Rattle.world_model.specs.Hub.{some_waited}
use Rattle.reliable_engine.specs.declared.slots.TheConstants.{SLOTS}
use Rattle.reliable_engine.specs.Slots.{open_from}
use Rattle.reliable_engine.proofs.slots.is_any_slot_waited.Given as goal

abbrev pub invariant-loop-place : goal.invariant-loop-place
invariant-loop-place l =
    some_waited (open_from l.slots l.place (l.low + SLOTS - l.place)) ≡ some_waited (open_from l.slots l.low SLOTS)
