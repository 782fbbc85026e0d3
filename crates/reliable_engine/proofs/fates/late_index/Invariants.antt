use Rattle.std.proofs.Common.{◌≡◌, ℕ, List, take, drop, ◌++◌}
use Rattle.world_model.specs.Hub.{insert_late}
use Rattle.reliable_engine.proofs.fates.late_index.Given as goal

abbrev pub invariant-loop-at : goal.invariant-loop-at
invariant-loop-at l = (words : List ℕ)
    → insert_late (l.place, words) l.lates.items
    ≡ take l.at l.lates.items ++ insert_late (l.place, words) (drop l.at l.lates.items)
