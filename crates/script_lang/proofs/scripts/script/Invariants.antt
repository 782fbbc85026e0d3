use Rattle.std.proofs.Common.{◌≡◌, ◌++◌, map}
use Rattle.toml.specs.View.{view}
use Rattle.script_lang.specs.Fields.{texts_in}
use Rattle.script_lang.proofs.scripts.script.Given as goal

-- those so far, and those of the items that are left
abbrev pub invariant-loop-item : goal.invariant-loop-item
invariant-loop-item l =
    l.lines.items ++ texts_in (map view l.item-iterator.rest.items) ≡ texts_in (map view l.fn.items.items)
