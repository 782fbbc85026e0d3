use Rattle.std.proofs.Common.{◌∙◌, ap, arith, refl, subst, sym, Some}
use Rattle.std.proofs.lemmas.Option.{slice_get-get_or}
use Rattle.lane_tables.specs.Books.{BookState, IsRow, Row, row_of}
use Rattle.lane_tables.proofs.Done.{all_done, one_more_done}
use Rattle.lane_tables.specs.Taken.{HasDoneAll}
use Rattle.lane_tables.proofs.book.Book.is_all_taken.Goals as goal

pub returns-then-not-has_done_all : goal.returns-then-not-has_done_all
returns-then-not-has_done_all c = (
  λ is. absurd cc,
  λ all. (let is = c.has_done_all.ensures.1 (all c.client.result) in
      let false_is = c.if-not-has_done_all.true in absurd cc),
)

pub loop-at-preserved : goal.loop-at-preserved
loop-at-preserved c =
    let rows = c.self.inside.rows.items in
    let at = c.loop-at.at in
    let row = c.index.result.now in
    one_more_done c.args.self.now.items rows at row
    (slice_get-get_or rows at row (omega (arith, c.loop-at-test.true, c.len-at-end.ensures))
    ∙ ap (λ (r : Row). Some r) (sym c.index.ensures))
    (subst (HasDoneAll c.args.self.now.items) c.client.ensures (c.has_done_all.ensures.0 c.if-not-has_done_all.false))
    c.loop-at.invariant

pub returns : goal.returns
returns c = (
  λ _. all_done c.args.self.now.items c.self.inside.rows.items c.loop-at.at
      (omega (arith, c.loop-at-test.false, c.loop-at.auto, c.len-at-end.ensures))
      (λ client. subst (λ (v : BookState). IsRow v.items client (row_of client c.self.inside.rows.items)) c.self.view_is
      (c.self.invariant.rows_are client)) c.loop-at.invariant,
  λ _. refl,
)
