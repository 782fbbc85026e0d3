use Rattle.std.proofs.Common.{◌≡◌, ap, map, ◌∙◌}
use Rattle.board_history.specs.Order.{by_place}
use Rattle.board_history.specs.Runs.{opens_with}
use Rattle.run_audit.specs.Replaying.{parts_among, placed_in_rows, replies_from, rows_from}
use Rattle.run_audit.specs.Steps.{piece_kept}
use Rattle.run_audit.proofs.Replays.{run_is, same_run}
use Rattle.run_audit.proofs.replaying.replayed_run.Goals as goal

pub returns : goal.returns
returns c =
    let pieces = map piece_kept c.args.pieces.now in
    let opening = opens_with c.args.board.now.link in
    let rows : c.in_ok-rows.rows.items ≡ rows_from pieces 0 c.args.plans =
    c.in_ok-rows.ensures ∙ ap (rows_from pieces 0) c.as_slice.ensures in
    let replies : c.in_ok-replies.replies.items
    ≡ replies_from opening (by_place (placed_in_rows c.args.plans c.in_ok-rows.rows.items)) =
    c.in_ok-replies.ensures.replies
    ∙ (ap (λ p. replies_from opening (by_place (placed_in_rows p c.as_slice-3.result.now))) c.as_slice-2.ensures
    ∙ ap (λ r. replies_from opening (by_place (placed_in_rows c.args.plans r))) c.as_slice-3.ensures.value) in
    let made : c.in_ok-parts_of.field-0
    ≡ parts_among c.in_ok-replies.replies.items c.args.plans c.in_ok-rows.rows.items =
    c.in_ok-parts_of.ensures
    ∙ (ap (λ r. parts_among r c.into_vec.result.items c.as_slice-5.result.now) c.as_slice-4.ensures.value
    ∙ (ap (λ p. parts_among c.in_ok-replies.replies.items p c.as_slice-5.result.now) c.into_vec.ensures
    ∙ ap (parts_among c.in_ok-replies.replies.items c.args.plans) c.as_slice-5.ensures.value)) in
    let parts = run_is c.args.board.now c.args.plans pieces c.in_ok-rows.rows.items c.in_ok-replies.replies.items
    c.in_ok-parts_of.field-0 rows replies made in
    let name : c.in_ok-copy_of.field-0 ≡ c.args.board.now.name = c.in_ok-copy_of.ensures ∙ c.as_str.ensures in
    let told = c.greeting_of.ensures.greeting in
    same_run _ _ _ _ _ _ name told parts
