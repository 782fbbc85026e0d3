use Rattle.std.proofs.Common.{◌≡◌}
use Rattle.toml.specs.View.{members_view, table_view}
use Rattle.access_policy.specs.Reading.{keys_faults}
use Rattle.access_policy.proofs.rule_keys.check_keys.Given as goal

-- the faults are those of the keys that are left
abbrev pub invariant-loop-key : goal.invariant-loop-key
invariant-loop-key l = keys_faults (members_view l.key-iterator) ≡ keys_faults (table_view l.members)
