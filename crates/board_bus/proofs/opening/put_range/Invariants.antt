use Rattle.std.proofs.Common.{◌≡◌, ◌+◌, drop}
use Rattle.board_bus.specs.Cells.{cells_from}
use Rattle.board_bus.specs.Ranges.{opening_words}
use Rattle.board_bus.specs.Pages.{IsPaged, cells_of, put_all}
use Rattle.board_bus.proofs.opening.put_range.Given as goal

abbrev pub invariant-loop-i : goal.invariant-loop-i
invariant-loop-i l =
    IsPaged l.pages.items × (cells_of l.pages.items
    ≡ put_all (cells_from (l.range.base + l.i) l.range.kind (drop l.i (opening_words l.range)))
    (cells_of l.initial.pages.items))
