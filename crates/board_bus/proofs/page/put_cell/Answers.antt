-- The cell is changed on the page of its address.
use Rattle.std.proofs.Common.{◌%◌, refl, ap, ◌∙◌, subst}
use Rattle.std.specs.Ordering.{nat_cmp}
use Rattle.std.specs.FinMap.Entries.{put}
use Rattle.std.specs.Vec.{with_item}
use Rattle.board_bus.specs.declared.page.Page.{Page}
use Rattle.board_bus.proofs.PageEdits.{ChangesCell, set_puts}
use Rattle.board_bus.proofs.page.put_cell.Goals as goal

pub returns-clause-cells : goal.returns-clause-cells
returns-clause-cells c =
    let a = c.args.address in
    let there = c.in_ok-place.ensures in
    let page = c.index_mut-page.result.now in
    let changed : Page = record {
      number = page.number;
      words = with_item page.words (a % 256) c.args.word;
      kinds = with_item page.kinds (a % 256) c.of.result;
    } in
    let same : ChangesCell page changed (a % 256) c.args.kind c.args.word =
    record { number = refl; held = c.of.result; held_is = c.of.ensures; kinds = refl; words = refl } in
    let change = subst (λ (p : Page). ChangesCell p changed (a % 256) c.args.kind c.args.word)
    c.index_mut-page.ensures.value same in
    set_puts c.page_at.new.pages.items a c.in_ok-place.place changed c.args.kind c.args.word there.paged there.at page
    change
    ∙ ap (put nat_cmp a (record { kind = c.args.kind; word = c.args.word })) there.cells
