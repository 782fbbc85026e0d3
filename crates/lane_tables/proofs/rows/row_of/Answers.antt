use Rattle.std.proofs.Common.{◌≡◌, ◌∙◌, ◌<◌, sym, ap, arith, Some, length}
use Rattle.std.proofs.lemmas.Option.{slice_get-get_or}
use Rattle.lane_tables.specs.Books.{Row, row_at}
use Rattle.lane_tables.proofs.ClientRows.{found_at, no_row}
use Rattle.lane_tables.proofs.rows.row_of.Goals as goal

pub returns-in_err-at : goal.returns-in_err-at
returns-in_err-at c = rw c.from_residual.ensures (no_row c.args.client c.args.rows.now.items
    (sym (c.row_at.ensures ∙ ap (row_at c.args.client) c.deref.ensures.value) ∙ c.in_err-at.was))

pub index-requires : goal.index-requires
index-requires c =
    let found = found_at c.args.client c.args.rows.now.items c.in_ok-at.at
    (sym (c.row_at.ensures ∙ ap (row_at c.args.client) c.deref.ensures.value) ∙ c.in_ok-at.was) in
    let within = found.within in
    omega (arith, within)

pub returns : goal.returns
returns c =
    let rows = c.args.rows.now.items in
    let at = c.in_ok-at.at in
    let found = found_at c.args.client rows at
    (sym (c.row_at.ensures ∙ ap (row_at c.args.client) c.deref.ensures.value) ∙ c.in_ok-at.was) in
    let row = c.index.result.now in
    let here : Some row ≡ Some found.row =
    sym (slice_get-get_or rows at row found.within ∙ ap (λ (r : Row). Some r) (sym c.index.ensures)) ∙ found.there in
    found.mine ∙ sym here
