use Rattle.std.proofs.Common.{◌≡◌, []}
use Rattle.board_bus.specs.Pages.{IsPaged, cells_of}
use Rattle.board_bus.proofs.opening.blank_pages.Given as goal

abbrev pub invariant-loop-span : goal.invariant-loop-span
invariant-loop-span l = IsPaged l.pages.items × (cells_of l.pages.items ≡ [])
