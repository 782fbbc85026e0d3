use Rattle.std.proofs.Common.{◌≡◌, ◌∙◌, sym, ap, arith, subst, Some, None, set, ◌<◌, length}
use Rattle.std.proofs.lemmas.Option.{slice_get-get_or}
use Rattle.lane_tables.specs.Books.{Row, after_ask, row_at}
use Rattle.lane_tables.proofs.ClientRows.{found_at, no_row, none_of, set_changed}
use Rattle.lane_tables.proofs.rows.add_ask.Goals as goal

pub index_mut-row-requires : goal.index_mut-row-requires
index_mut-row-requires c =
    let found = found_at c.args.client c.args.rows.now.items c.in-Some.at
    (sym (c.row_at.ensures ∙ ap (row_at c.args.client) c.deref.ensures.value) ∙ c.in-Some.is) in
    let within = found.within in
    omega (arith, within)

pub add_ask-requires : goal.add_ask-requires
add_ask-requires c =
    let rows = c.args.rows.now.items in
    let at = c.in-Some.at in
    let is = sym (c.row_at.ensures ∙ ap (row_at c.args.client) c.deref.ensures.value) ∙ c.in-Some.is in
    let found = found_at c.args.client rows at is in
    let row = c.index_mut-row.result.now in
    let here : Some row ≡ Some found.row =
    sym (slice_get-get_or rows at row found.within ∙ ap (λ (r : Row). Some r) (sym c.index_mut-row.ensures.value))
    ∙ found.there in
    let mine : Some found.row ≡ Some c.requires.row = sym found.mine ∙ c.requires.there in
    let same : c.requires.row ≡ row = cc in
    subst (λ (r : Row). r.asked < length r.bodies) same c.requires.left

pub returns-in-Some : goal.returns-in-Some
returns-in-Some c =
    let rows = c.args.rows.now.items in
    let at = c.in-Some.at in
    let is = sym (c.row_at.ensures ∙ ap (row_at c.args.client) c.deref.ensures.value) ∙ c.in-Some.is in
    let found = found_at c.args.client rows at is in
    let row = c.index_mut-row.result.now in
    ap (set rows at) c.add_ask.ensures
    ∙ set_changed c.args.client (after_ask c.args.ask) rows at is row
    (slice_get-get_or rows at row found.within ∙ ap (λ (r : Row). Some r) (sym c.index_mut-row.ensures.value))

pub returns-in_default : goal.returns-in_default
returns-in_default c =
    let rows = c.args.rows.now.items in
    let result : c.row_at.result ≡ None = none_of c.row_at.result c.in_default.not-Some in
    let gone = no_row c.args.client rows
    (sym (c.row_at.ensures ∙ ap (row_at c.args.client) c.deref.ensures.value) ∙ result) in
    let there = c.requires.there in
    absurd (cc)
