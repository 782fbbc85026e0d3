use Rattle.std.proofs.Common.{ap, map, rules, ◌∙◌}
use Rattle.std.proofs.lemmas.List.Sorted.{IsNonDecreasingBy-from_sort_by_key, answers_always}
use Rattle.board_history.specs.Order.{by_place}
use Rattle.run_audit.specs.Replaying.{placed_of}
use Rattle.run_audit.proofs.ByPlace.{stable_is_sorted}
use Rattle.run_audit.proofs.Replays.{place_in, sorted_there}
use Rattle.run_audit.proofs.replaying.placed_in_order.Goals as goal

pub returns : goal.returns
returns c =
    let up = IsNonDecreasingBy-from_sort_by_key place_in _ c.in_ok-sort_by_key.ensures.sorted (λ a r q k. search rules) in
    let kept = c.sort_by_key.ensures.stable place_in (answers_always _ _ _ (λ f a r g h. search rules)) in
    ap (map placed_of) (stable_is_sorted place_in c.in_ok-order.order.items _ up kept)
    ∙ (sorted_there c.in_ok-order.order.items ∙ ap by_place c.in_ok-order.ensures)
