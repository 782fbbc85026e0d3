use Rattle.std.proofs.Common.{◌≡◌, ◌++◌, drop}
use Rattle.std.specs.List.{flat_map}
use Rattle.config_store.specs.Kept as kept
use Rattle.config_store.specs.Lines as spec
use Rattle.config_store.specs.Refusals as fault
use Rattle.config_store.proofs.lines.reads.Given as goal

-- the lines so far and those of the boards that are left, and the faults of these
abbrev pub invariant-loop-i : goal.invariant-loop-i
invariant-loop-i l = record {
  lines : l.lines.items ++ spec.save_lines (kept.kept_of (kept.indexed_boards (drop l.i l.boards) (drop l.i l.indexes)))
      ≡ spec.save_lines (kept.kept_of (kept.indexed_boards l.boards l.indexes));
  faults : flat_map fault.overlap_faults (kept.indexed_boards (drop l.i l.boards) (drop l.i l.indexes))
      ≡ flat_map fault.overlap_faults (kept.indexed_boards l.boards l.indexes);
}
