use Rattle.std.proofs.Common.{◌≡◌, ◌++◌, drop, map}
use Rattle.toml.specs.View.{view}
use Rattle.script_lang.specs.Fields.{numbers_in}
use Rattle.script_lang.proofs.boards.numbers.Given as goal

-- those so far, and those of the items that are left
abbrev pub invariant-loop-item : goal.invariant-loop-item
invariant-loop-item l =
    l.words.items ++ numbers_in (map view (drop l.item-index l.items)) ≡ numbers_in (map view l.items)
