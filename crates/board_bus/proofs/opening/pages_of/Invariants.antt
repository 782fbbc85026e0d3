use Rattle.std.proofs.Common.{◌≡◌, drop}
use Rattle.board_bus.specs.Ranges.{opening_bus}
use Rattle.board_bus.specs.Pages.{IsPaged, cells_of}
use Rattle.board_bus.proofs.opening.pages_of.Given as goal

abbrev pub invariant-loop-i : goal.invariant-loop-i
invariant-loop-i l = IsPaged l.pages.items × (cells_of l.pages.items ≡ opening_bus (drop l.i l.ranges))
