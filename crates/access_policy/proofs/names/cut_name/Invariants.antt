use Rattle.std.proofs.Common.{◌≡◌, ◌++◌, ◌+◌, length, map, option_copied}
use Rattle.std.specs.Option.{option_map_or}
use Rattle.access_policy.specs.Cutting.{parts_left}
use Rattle.access_policy.specs.Names.{item_of, items_of}
use Rattle.access_policy.proofs.names.cut_name.Given as goal

-- the items so far, and those of what is left
abbrev pub invariant-part : goal.invariant-part
invariant-part l = l.parts.items ++ map item_of (parts_left (option_copied l.left)) ≡ items_of l.name

abbrev pub decreases-part : goal.decreases-part
decreases-part l = option_map_or (λ text. length text + 1) (option_copied l.left) 0
