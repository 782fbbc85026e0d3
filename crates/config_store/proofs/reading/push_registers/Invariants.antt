use Rattle.std.proofs.Common.{◌≡◌, ◌++◌}
use Rattle.toml.specs.View.{members_view, table_view}
use Rattle.config_store.specs.States as spec
use Rattle.config_store.proofs.reading.push_registers.Given as goal

-- the values so far and those of the members that are left, and the faults of these
abbrev pub invariant-loop-name : goal.invariant-loop-name
invariant-loop-name l = record {
  read : l.entries.items ++ spec.board_entries l.board (members_view l.name-iterator)
      ≡ l.fn.entries.items ++ spec.board_entries l.board (table_view l.registers);
  faults : spec.number_faults l.board (members_view l.name-iterator)
      ≡ spec.number_faults l.board (table_view l.registers);
}
