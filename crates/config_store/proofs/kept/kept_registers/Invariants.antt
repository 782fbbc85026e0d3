use Rattle.std.proofs.Common.{◌≡◌, ◌++◌, drop}
use Rattle.std.specs.List.{filter}
use Rattle.std.specs.FinMap as map
use Rattle.config_store.specs.Kept as spec
use Rattle.config_store.proofs.kept.kept_registers.Given as goal

-- those so far, and those of the registers that are left
abbrev pub invariant-loop-i : goal.invariant-loop-i
invariant-loop-i l =
    l.found.items ++ filter (spec.is_kept (map.entries l.index)) (drop l.i (map.entries l.index)) ≡ spec.registers_kept l.index
