use Rattle.std.proofs.Common.{◌≡◌, ◌++◌, drop, map}
use Rattle.config_store.specs.Lines as spec
use Rattle.config_store.proofs.lines.writes.Given as goal

-- the lines so far, and those of the values that are left
abbrev pub invariant-loop-entry : goal.invariant-loop-entry
invariant-loop-entry l =
    l.lines.items ++ map spec.write_line (drop l.entry-index l.entries) ≡ map spec.write_line l.entries
