use Rattle.std.proofs.Common.{◌≡◌, ◌∙◌, ◌++◌, ◌∷◌, [], sym, ap, arith, Some, set}
use Rattle.std.proofs.lemmas.Option.{slice_get-get_or}
use Rattle.lane_tables.specs.Books.{Row, after_plan, row_at}
use Rattle.lane_tables.proofs.ClientRows.{first_plan, found_at, on_ok, plan_changed, set_changed}
use Rattle.lane_tables.proofs.rows.add_plan.Goals as goal

pub index_mut-row-requires : goal.index_mut-row-requires
index_mut-row-requires c =
    let found = found_at c.args.client c.args.rows.now.items c.in-Some.at
    (sym (c.row_at.ensures ∙ ap (row_at c.args.client) c.deref.ensures.value) ∙ c.in-Some.is) in
    let within = found.within in
    omega (arith, within)

pub returns-in-Some-clause-ok : goal.returns-in-Some-clause-ok
returns-in-Some-clause-ok c =
    let rows = c.args.rows.now.items in
    let at = c.in-Some.at in
    let is = sym (c.row_at.ensures ∙ ap (row_at c.args.client) c.deref.ensures.value) ∙ c.in-Some.is in
    let found = found_at c.args.client rows at is in
    let change = after_plan c.args.body in
    let row = c.index_mut-row.result.now in
    let there : Some row ≡ Some found.row =
    sym (slice_get-get_or rows at row found.within ∙ ap (λ (r : Row). Some r) (sym c.index_mut-row.ensures.value))
    ∙ found.there in
    on_ok c.add_plan.result (λ added. ap (set rows at) added
    ∙ (set_changed c.args.client change rows at is row
    (slice_get-get_or rows at row found.within ∙ ap (λ (r : Row). Some r) (sym c.index_mut-row.ensures.value))
    ∙ sym (plan_changed c.args.client c.args.body rows at is))) c.add_plan.ensures.ok

pub returns-in_ok-push-in-None-clause-ok : goal.returns-in_ok-push-in-None-clause-ok
returns-in_ok-push-in-None-clause-ok c =
    let rows = c.args.rows.now.items in
    let is = sym (c.row_at.ensures ∙ ap (row_at c.args.client) c.deref.ensures.value) ∙ c.in-None.is in
    c.in_ok-push-in-None.ensures.items ∙ (ap (λ (r : Row). rows ++ r ∷ []) c.in_ok-row-in-None.ensures
    ∙ sym (first_plan c.args.client c.args.body rows is))
