use Rattle.std.proofs.Common.{take}
use Rattle.std.specs.List.{AllByRecursion}
use Rattle.ipb_base.specs.Word.{AreWords}
use Rattle.board_bus.specs.declared.range.Range.{Range}
use Rattle.board_bus.proofs.range.start_with_words.Given as goal

abbrev pub invariant-loop-range : goal.invariant-loop-range
invariant-loop-range l = AllByRecursion (λ (r : Range). AreWords r.init) (take l.range-index l.ranges)
