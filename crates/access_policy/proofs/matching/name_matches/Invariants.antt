use Rattle.std.proofs.Common.{◌≡◌, drop, map, option_copied}
use Rattle.access_policy.specs.Cutting.{parts_left}
use Rattle.access_policy.specs.Names.{item_of, items_of}
use Rattle.access_policy.specs.Patterns.{items_match}
use Rattle.access_policy.proofs.matching.name_matches.Given as goal

-- what is left matches as the whole does
abbrev pub invariant-loop-pattern : goal.invariant-loop-pattern
invariant-loop-pattern l =
    items_match (drop l.pattern-index l.patterns) l.rest (map item_of (parts_left (option_copied l.left)))
    ≡ items_match l.patterns l.rest (items_of l.name)
