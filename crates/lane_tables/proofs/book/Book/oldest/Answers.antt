use Rattle.std.proofs.Common.{IfNone, IfSome, subst}
use Rattle.lane_tables.specs.Books.{BookState, IsRow, IsTakenRow}
use Rattle.lane_tables.specs.Taken.{HasTakenAll, IsOldest}
use Rattle.lane_tables.proofs.TakenRows.{all_taken, is_oldest}
use Rattle.lane_tables.proofs.book.Book.oldest.Goals as goal

pub returns-clause-some : goal.returns-clause-some
returns-clause-some c =
    let items = c.self.inside.log.items in
    let client = c.args.client in
    let row = c.in_ok-row_of.field-0.now in
    let tells = subst (IsRow items client) c.in_ok-row_of.ensures (c.self.invariant.rows_are client) in
    let taken = subst (IsTakenRow items client) c.in_ok-row_of.ensures (c.self.invariant.taken_are client) in
    let oldest = c.oldest.result in
    subst (λ (v : BookState). IfSome oldest (λ seq. IsOldest v.items client seq)) c.self.view_is
    (is_oldest items client row.asked row.bodies oldest tells.asked_are taken c.oldest.ensures.below
    c.oldest.ensures.untaken c.oldest.ensures.before)

pub returns-clause-none : goal.returns-clause-none
returns-clause-none c =
    let items = c.self.inside.log.items in
    let client = c.args.client in
    let row = c.in_ok-row_of.field-0.now in
    let tells = subst (IsRow items client) c.in_ok-row_of.ensures (c.self.invariant.rows_are client) in
    let taken = subst (IsTakenRow items client) c.in_ok-row_of.ensures (c.self.invariant.taken_are client) in
    let oldest = c.oldest.result in
    subst (λ (v : BookState). IfNone oldest (HasTakenAll v.items client)) c.self.view_is
    (all_taken items client row.asked row.bodies oldest tells.asked_are taken c.oldest.ensures.all)
