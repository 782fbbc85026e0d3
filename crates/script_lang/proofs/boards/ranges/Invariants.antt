use Rattle.std.proofs.Common.{◌≡◌, ◌++◌, drop, map}
use Rattle.toml.specs.View.{view}
use Rattle.script_lang.specs.Fields.{tables_in}
use Rattle.script_lang.specs.Sessions.{range_of}
use Rattle.script_lang.proofs.boards.ranges.Given as goal

-- those so far, and those of the items that are left
abbrev pub invariant-loop-item : goal.invariant-loop-item
invariant-loop-item l =
    l.ranges.items ++ tables_in range_of (map view (drop l.item-index l.items)) ≡ tables_in range_of (map view l.items)
