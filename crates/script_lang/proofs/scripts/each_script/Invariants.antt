use Rattle.std.proofs.Common.{◌≡◌, ◌++◌, map}
use Rattle.toml.specs.View.{view}
use Rattle.script_lang.specs.Fields.{tables_in}
use Rattle.script_lang.specs.Sessions.{script_of}
use Rattle.script_lang.proofs.scripts.each_script.Given as goal

-- those so far, and those of the items that are left
abbrev pub invariant-loop-item : goal.invariant-loop-item
invariant-loop-item l =
    l.scripts.items ++ tables_in script_of (map view l.item-iterator.rest.items)
    ≡ tables_in script_of (map view l.fn.items.items)
