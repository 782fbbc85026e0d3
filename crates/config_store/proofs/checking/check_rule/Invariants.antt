use Rattle.std.proofs.Common.{◌≡◌, drop}
use Rattle.config_store.specs.Kept.{indexed_boards}
use Rattle.config_store.specs.Refusals as spec
use Rattle.config_store.proofs.checking.check_rule.Given as goal

-- the faults are those of the values that are left
abbrev pub invariant-loop-entry : goal.invariant-loop-entry
invariant-loop-entry l =
    spec.faults_by (indexed_boards l.boards l.indexes) (drop l.entry-index l.entries) l.why
    ≡ spec.faults_by (indexed_boards l.boards l.indexes) l.entries l.why
