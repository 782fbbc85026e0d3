use Rattle.std.proofs.Common.{◌≡◌}
use Rattle.board_bus.specs.Pages.{IsPaged, cells_of}
use Rattle.board_bus.proofs.opening.take_pages.Given as goal

abbrev pub invariant-loop-number : goal.invariant-loop-number
invariant-loop-number l = IsPaged l.pages.items × (cells_of l.pages.items ≡ cells_of l.initial.pages.items)
