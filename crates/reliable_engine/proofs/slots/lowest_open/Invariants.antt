use Rattle.std.proofs.Common.{◌≡◌, ◌+◌, ◌-◌}
use Rattle.reliable_engine.specs.declared.slots.TheConstants.{SLOTS}
use Rattle.reliable_engine.specs.Slots.{open_from}
use Rattle.reliable_engine.proofs.slots.lowest_open.Given as goal

abbrev pub invariant-loop-place : goal.invariant-loop-place
invariant-loop-place l =
    (open_from l.slots l.place SLOTS ≡ open_from l.slots l.low SLOTS)
    × (open_from l.slots l.place (l.low + SLOTS - l.place) ≡ open_from l.slots l.low SLOTS)
