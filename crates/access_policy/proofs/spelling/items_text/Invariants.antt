use Rattle.std.proofs.Common.{◌≡◌, map, take, string_bytes}
use Rattle.std.specs.List.{join_with_byte}
use Rattle.node_tree.specs.Names.{dot}
use Rattle.access_policy.specs.Spelling.{item_text}
use Rattle.access_policy.proofs.spelling.items_text.Given as goal

-- the items so far
abbrev pub invariant-loop-i : goal.invariant-loop-i
invariant-loop-i l = string_bytes l.text ≡ join_with_byte dot (map item_text (take l.i l.items))
