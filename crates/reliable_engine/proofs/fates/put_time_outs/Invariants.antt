use Rattle.std.proofs.Common.{◌≡◌, ◌≤◌, ◌+◌, ◌-◌, length}
use Rattle.world_model.specs.Hub.{time_out}
use Rattle.reliable_engine.specs.declared.slots.TheConstants.{SLOTS}
use Rattle.reliable_engine.specs.Slots.{AreUpTo, open_from}
use Rattle.reliable_engine.specs.Steps.{waits}
use Rattle.reliable_engine.proofs.fates.put_time_outs.Given as goal

abbrev pub invariant-loop-place : goal.invariant-loop-place
invariant-loop-place l = record {
  items : time_out l.rounds l.sent (open_from l.slots l.place (l.low + SLOTS - l.place)) l.fates.items
      ≡ time_out l.rounds l.sent (open_from l.slots l.low SLOTS) l.fn.fates.items;
  len : l.fates.len + waits (open_from l.slots l.place (l.low + SLOTS - l.place))
      ≡ l.fn.fates.len + waits (open_from l.slots l.low SLOTS);
  capacity : l.fn.fates.cap ≤ l.fates.cap;
  places : AreUpTo (length l.sent) (open_from l.slots l.place (l.low + SLOTS - l.place));
}
