use Rattle.std.proofs.Common.{◌≡◌, drop, map}
use Rattle.toml.specs.View.{view}
use Rattle.access_policy.specs.Reading.{rules_faults}
use Rattle.access_policy.proofs.reading.check_rules.Given as goal

-- the faults are those of what is left
abbrev pub invariant-loop-i : goal.invariant-loop-i
invariant-loop-i l = rules_faults l.i (map view (drop l.i l.items)) ≡ rules_faults 0 (map view l.items)
