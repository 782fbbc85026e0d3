use Rattle.std.proofs.Common.{◌≡◌, ◌≤◌, map, take, ◌++◌, ◌+◌}
use Rattle.world_model.specs.Hub.{unsent_fate}
use Rattle.reliable_engine.proofs.fates.put_unsent.Given as goal

abbrev pub invariant-loop-offered : goal.invariant-loop-offered
invariant-loop-offered l = (l.fates.items ≡ l.fn.fates.items ++ map unsent_fate (take l.offered-index l.queue))
    × (l.fates.len ≡ l.fn.fates.len + l.offered-index)
    × (l.fn.fates.cap ≤ l.fates.cap)
