use Rattle.std.proofs.Common.{take}
use Rattle.board_bus.proofs.Copies.{AreCopies}
use Rattle.board_bus.proofs.page.copies_of.Given as goal

abbrev pub invariant-loop-page : goal.invariant-loop-page
invariant-loop-page l = AreCopies l.copies.items (take l.page-index l.pages)
