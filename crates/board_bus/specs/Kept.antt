-- What is true of the pages of every bus: no public clause speaks of it.
use Rattle.std.specs.Prelude.{List}
use Rattle.board_bus.specs.declared.page.Page.{Page}
use Rattle.board_bus.specs.Cells.{HoldsWords}
use Rattle.board_bus.specs.Pages.{IsPaged, cells_of}

-- the pages stand in order, and their words have 32 bits
pub record IsKept (pages : List Page) : Type 0 where
  pub paged : IsPaged pages
  pub words : HoldsWords (cells_of pages)
