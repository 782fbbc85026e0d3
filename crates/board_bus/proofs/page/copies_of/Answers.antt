use Rattle.std.proofs.Common.{subst, List, arith}
use Rattle.std.proofs.lemmas.Grind.{common_steps}
use Rattle.std.proofs.lemmas.List.{take_all}
use Rattle.board_bus.specs.declared.page.Page.{Page}
use Rattle.board_bus.proofs.Copies.{AreCopies, copies-paged}
use Rattle.board_bus.proofs.page.copies_of.Goals as goal

pub returns-clause-paged : goal.returns-clause-paged
returns-clause-paged c =
    copies-paged c.loop-page.copies.items c.args.pages.now
    (subst (λ (pages : List Page). AreCopies c.loop-page.copies.items pages)
    (take_all c.loop-page.page-index c.args.pages.now c.loop-page-test.false) c.loop-page.invariant) c.requires.paged

pub loop-page-preserved : goal.loop-page-preserved
loop-page-preserved c = grind (arith, common_steps)
