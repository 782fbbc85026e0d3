use Rattle.std.proofs.Common.{◌≡◌, ℕ, take, drop, ◌++◌}
use Rattle.world_model.specs.declared.offered.Fate.{Fate}
use Rattle.world_model.specs.Hub.{insert_fate}
use Rattle.reliable_engine.proofs.fates.fate_index.Given as goal

abbrev pub invariant-loop-at : goal.invariant-loop-at
invariant-loop-at l = (new : ℕ × Fate)
    → insert_fate l.place new l.fates.items
    ≡ take l.at l.fates.items ++ insert_fate l.place new (drop l.at l.fates.items)
