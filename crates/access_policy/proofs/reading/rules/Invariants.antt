use Rattle.std.proofs.Common.{◌≡◌, ◌≤◌, ◌++◌, length, drop, map}
use Rattle.toml.specs.View.{view}
use Rattle.script_lang.specs.Fields.{tables_in}
use Rattle.access_policy.specs.Reading.{rule_of}
use Rattle.access_policy.proofs.reading.rules.Given as goal

-- those so far, and those of the values that are left
abbrev pub invariant-loop-item : goal.invariant-loop-item
invariant-loop-item l = record {
  rules : l.rules.items ++ tables_in rule_of (map view (drop l.item-index l.items)) ≡ tables_in rule_of (map view l.items);
  few : length l.rules.items ≤ l.item-index;
}
