use Rattle.std.proofs.Common.{◌≡◌, ◌+◌, take}
use Rattle.std.specs.List.{sum_by}
use Rattle.board_bus.specs.declared.range.Range.{Range}
use Rattle.board_bus.specs.Ranges.{most_words}
use Rattle.board_bus.proofs.range.is_too_large.Given as goal

abbrev pub invariant-loop-range : goal.invariant-loop-range
invariant-loop-range l = sum_by (λ (r : Range). r.size) (take l.range-index l.ranges) + l.left ≡ most_words
