use Rattle.std.proofs.Common.{◌≡◌, ◌%◌, None, Option, get_or, sym, ap, ◌∙◌, arith}
use Rattle.std.proofs.lemmas.List.{get_or_read}
use Rattle.board_bus.specs.declared.kind.RangeKind.{RangeKind}
use Rattle.board_bus.specs.declared.page.AddressKind.TheVariants.{Absent}
use Rattle.board_bus.specs.declared.page.Page.{Page}
use Rattle.board_bus.specs.Pages.{kind_of}
use Rattle.board_bus.proofs.PageEdits.{absent_page, found_cell}
use Rattle.board_bus.proofs.PageLookups.{cell_of, split}
use Rattle.board_bus.proofs.page.find_cell.Goals as goal

-- the page has no kind there
pub returns-in_default : goal.returns-in_default
returns-in_default c =
    let pages = c.args.pages.now in
    let a = c.args.address in
    let found = c.in-Ok.ensures.found in
    let d = c.index-pages-page.result in
    let page : Page = get_or pages c.in-Ok.page d in
    let full = c.requires.paged.full c.in-Ok.page d found.within in
    let s = split a in
    let read : c.index.result.now ≡ get_or page.kinds.items (a % 256) Absent =
    get_or_read page.kinds.items (a % 256) c.index.result.now (omega (arith, s.below, full.kinds)) c.index.ensures
    Absent
    in
    let none : c.kind.result ≡ None = cc in
    let absent : kind_of (get_or page.kinds.items (a % 256) Absent) ≡ None =
    sym (ap kind_of read) ∙ sym c.kind.ensures ∙ none in
    found_cell pages a c.in-Ok.page d c.requires.paged found
    ∙ ap (λ (k : Option RangeKind). cell_of k (get_or page.words.items (a % 256) 0)) absent

-- no page has the number
pub returns-in-Err : goal.returns-in-Err
returns-in-Err c = absent_page c.args.pages.now c.args.address _ c.requires.paged c.in-Err.ensures.absent
