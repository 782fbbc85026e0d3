use Rattle.std.proofs.Common.{◌≡◌, ◌+◌, length, option_copied}
use Rattle.std.specs.Option.{option_map_or}
use Rattle.access_policy.specs.Cutting.{behind, parts_left}
use Rattle.access_policy.specs.Spelling.{items_in, items_in_parts}
use Rattle.access_policy.proofs.patterns.items_in.Given as goal

-- the items so far, and those of what is left
abbrev pub invariant-part : goal.invariant-part
invariant-part l = behind l.items.items (items_in_parts (parts_left (option_copied l.left))) ≡ items_in l.fn.text

abbrev pub decreases-part : goal.decreases-part
decreases-part l = option_map_or (λ text. length text + 1) (option_copied l.left) 0
