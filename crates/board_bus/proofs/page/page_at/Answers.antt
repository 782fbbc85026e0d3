-- The blank page was put in the gap for its number.
use Rattle.std.proofs.Common.{sym, ap, ◌∙◌, subst, List}
use Rattle.board_bus.specs.declared.page.Page.{Page}
use Rattle.board_bus.specs.Pages.{cells_of, IsPaged, IsGapFor}
use Rattle.board_bus.proofs.PageEdits.{insert_paged, insert_cells}
use Rattle.board_bus.proofs.page.page_at.Goals as goal

pub returns-in_ok-insert-in-Err-clause-paged : goal.returns-in_ok-insert-in-Err-clause-paged
returns-in_ok-insert-in-Err-clause-paged c =
    let gap = subst (λ (pages : List Page). IsGapFor pages c.args.number c.in-Err.place) c.deref.ensures.value
    c.in-Err.ensures.absent in
    let blank = c.in_ok-blank-in-Err in
    subst IsPaged (sym {A = List Page} c.in_ok-insert-in-Err.ensures.items)
    (insert_paged c.args.pages.now.items c.args.number c.in-Err.place blank.field-0 c.requires.paged gap
    blank.ensures.number blank.ensures.full blank.ensures.kinds)

pub returns-in_ok-insert-in-Err-clause-cells : goal.returns-in_ok-insert-in-Err-clause-cells
returns-in_ok-insert-in-Err-clause-cells c =
    let gap = subst (λ (pages : List Page). IsGapFor pages c.args.number c.in-Err.place) c.deref.ensures.value
    c.in-Err.ensures.absent in
    let blank = c.in_ok-blank-in-Err in
    ap cells_of c.in_ok-insert-in-Err.ensures.items
    ∙ insert_cells c.args.pages.now.items c.args.number c.in-Err.place blank.field-0 c.requires.paged gap
    blank.ensures.number blank.ensures.full blank.ensures.kinds
