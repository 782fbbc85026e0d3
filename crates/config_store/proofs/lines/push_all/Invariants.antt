use Rattle.std.proofs.Common.{◌≡◌, ◌++◌}
use Rattle.std.specs.Vec.Iter.{into_iter_items}
use Rattle.config_store.proofs.lines.push_all.Given as goal

-- the lines so far, and those that are left
abbrev pub invariant-loop-line : goal.invariant-loop-line
invariant-loop-line l = l.lines.items ++ into_iter_items l.line-iterator ≡ l.fn.lines.items ++ l.fn.others.items
