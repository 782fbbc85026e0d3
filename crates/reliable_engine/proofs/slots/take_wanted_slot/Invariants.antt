use Rattle.std.proofs.Common.{◌≡◌}
use Rattle.reliable_engine.proofs.Wanting.{IsQuietTo}
use Rattle.reliable_engine.proofs.slots.take_wanted_slot.Given as goal

abbrev pub invariant-loop-place : goal.invariant-loop-place
invariant-loop-place l = record { same : l.slots ≡ l.fn.slots; quiet : IsQuietTo l.first l.low l.place l.slots }
