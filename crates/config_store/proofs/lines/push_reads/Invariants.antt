use Rattle.std.proofs.Common.{◌≡◌, ◌++◌, drop, map}
use Rattle.config_store.specs.Kept as kept
use Rattle.config_store.specs.Lines as spec
use Rattle.config_store.proofs.lines.push_reads.Given as goal

-- the lines so far, and those of the registers that are left
abbrev pub invariant-loop-entry : goal.invariant-loop-entry
invariant-loop-entry l =
    l.lines.items ++ spec.save_lines (map (kept.kept_register l.board) (drop l.entry-index l.found))
    ≡ l.fn.lines.items ++ spec.save_lines (map (kept.kept_register l.board) l.found)
