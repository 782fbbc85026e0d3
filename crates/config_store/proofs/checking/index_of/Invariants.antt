use Rattle.std.proofs.Common.{◌≡◌, drop}
use Rattle.config_store.specs.Kept.{indexed_boards}
use Rattle.config_store.specs.Refusals as spec
use Rattle.config_store.proofs.checking.index_of.Given as goal

-- the boards that are left
abbrev pub invariant-loop-i : goal.invariant-loop-i
invariant-loop-i l =
    spec.index_of l.name (indexed_boards (drop l.i l.boards) (drop l.i l.indexes))
    ≡ spec.index_of l.name (indexed_boards l.boards l.indexes)
