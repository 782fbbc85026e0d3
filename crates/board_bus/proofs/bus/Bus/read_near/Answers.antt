-- The cell that was found is the one of the map, and the word is read on its page.
use Rattle.std.proofs.Common.{◌≡◌, ℕ, List, Ok, Some, None, length, sym, ap, ◌∙◌, subst, arith}
use Rattle.std.proofs.lemmas.List.{get_or_read}
use Rattle.board_bus.specs.declared.page.Page.{Page}
use Rattle.board_bus.specs.Cells.{read_fault}
use Rattle.board_bus.specs.Pages.{IsCellPlace}
use Rattle.board_bus.proofs.PageLookups.{split}
use Rattle.board_bus.proofs.PageCells.{read_refused, read_found}
use Rattle.board_bus.proofs.bus.Bus.read_near.Goals as goal

pub returns-in-Some-read_fault : goal.returns-in-Some-read_fault
returns-in-Some-read_fault c =
    let is = subst (λ (a : ℕ). IsCellPlace c.self.inside.pages.items a c.in-Some.found) c.from.ensures
    (subst (λ (pages : List Page). IsCellPlace pages c.from.result c.in-Some.found) c.deref.ensures.value
    c.in-Some.ensures) in
    let refuses : read_fault c.in-Some.found.kind ≡ Some c.in-Some-read_fault.fault = cc in
    sym (read_refused _ _ c.args.address c.in-Some.found c.self.view_is (omega arith) c.self.invariant.paged is _
    refuses)

pub returns : goal.returns
returns c =
    let is = subst (λ (a : ℕ). IsCellPlace c.self.inside.pages.items a c.in-Some.found) c.from.ensures
    (subst (λ (pages : List Page). IsCellPlace pages c.from.result c.in-Some.found) c.deref.ensures.value
    c.in-Some.ensures) in
    let fine : read_fault c.in-Some.found.kind ≡ None = cc in
    let page = c.index.result.now in
    let s = split c.args.address in
    let full = c.self.invariant.paged.full c.in-Some.found.page page is.page_is.within in
    let size : length page.words.items ≡ 256 = ap (λ (p : Page). length p.words.items) c.index.ensures ∙ full.words in
    sym (read_found _ _ c.args.address c.in-Some.found c.self.view_is (omega arith) c.self.invariant.paged is page
    c.index.ensures fine
    ∙ ap (λ (w : ℕ). Ok w) (sym (get_or_read page.words.items c.in-Some.found.place _
    (omega (arith, s.below, size, is.place_is)) c.index-2.ensures 0)))
