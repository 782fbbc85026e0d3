use Rattle.std.proofs.Common.{ap, map, subst, sym, ◌∙◌}
use Rattle.std.proofs.lemmas.Result.{IfOk-weaker}
use Rattle.board_history.specs.Order.{by_place}
use Rattle.board_history.specs.Runs.{opens_with}
use Rattle.run_audit.specs.Replaying.{Rise, placed_in_rows, placed_of, replies_from}
use Rattle.run_audit.proofs.Replays.{order_is_short, order_rises, replies_rise}
use Rattle.run_audit.proofs.replaying.shown_replies.Goals as goal

pub replies_of-requires : goal.replies_of-requires
replies_of-requires c =
    let h = order_is_short c.args.plans.now c.args.rows.now c.requires.short in
    rw (c.as_slice.ensures.value, c.in_ok-order.ensures) h

pub returns-clause-rising : goal.returns-clause-rising
returns-clause-rising c =
    let h = replies_rise (opens_with c.args.link.now) (by_place (placed_in_rows c.args.plans.now c.args.rows.now))
    (order_rises (placed_in_rows c.args.plans.now c.args.rows.now)) in
    let order = ap (map placed_of) c.as_slice.ensures.value ∙ c.in_ok-order.ensures in
    IfOk-weaker c.replies_of.result _ _ (λ replies e.
    subst Rise (sym (e ∙ (ap (λ bus. replies_from bus (map placed_of c.as_slice.result.now)) c.in_ok-opening_bus.ensures
    ∙ ap (replies_from (opens_with c.args.link.now)) order))) h) c.replies_of.ensures
