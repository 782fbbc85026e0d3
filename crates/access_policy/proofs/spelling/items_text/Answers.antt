use Rattle.std.proofs.Common.{◌≡◌, ◌==◌, map, take, string_bytes, codes, ap, sym, ◌∙◌, arith}
use Rattle.std.proofs.lemmas.List.{take_all}
use Rattle.std.specs.List.{join_with_byte}
use Rattle.node_tree.specs.Names.{dot}
use Rattle.access_policy.specs.Cutting.{with_part}
use Rattle.access_policy.specs.Spelling.{item_text, item_texts}
use Rattle.access_policy.proofs.Joined.{next_item, no_rest, rest_behind}
use Rattle.access_policy.proofs.spelling.items_text.Goals as goal
use Rattle.access_policy.proofs.spelling.items_text.Goals.{then-rest+in_ok-push_part-2, else-rest}

pub loop-i-preserved : goal.loop-i-preserved
loop-i-preserved c =
    let i = c.loop-i.i in
    let items = c.args.items.now in
    c.in_ok-push_part.ensures
    ∙ ap (λ text. with_part (i == 0) text c.as_str.result.now) c.loop-i.invariant
    ∙ ap (with_part (i == 0) (join_with_byte dot (map item_text (take i items))))
    (c.as_str.ensures.value ∙ c.in_ok-item.ensures)
    ∙ next_item items i c.index-items-i.result c.loop-i-test.true c.index-items-i.is

pub returns : goal.returns
returns c =
    let items = c.args.items.now in
    let all : string_bytes c.loop-i.text ≡ join_with_byte dot (map item_text items) =
    c.loop-i.invariant ∙ ap (λ xs. join_with_byte dot (map item_text xs))
    (take_all c.loop-i.i items (omega (arith, c.loop-i-test.false))) in
    elim c.if-rest.branch [
      | then-rest+in_ok-push_part-2 w ↦ ap string_bytes w.text-is ∙ w.in_ok-push_part-2.ensures
          ∙ ap (λ text. with_part w.is_empty.result text (codes "**")) all
          ∙ ap (λ first. with_part first (join_with_byte dot (map item_text items)) (codes "**")) w.is_empty.ensures
          ∙ rest_behind items
          ∙ ap (λ rest. join_with_byte dot (item_texts items rest)) (sym w.if-rest.true)
      | else-rest w ↦ ap string_bytes w.text-is ∙ all ∙ no_rest items
          ∙ ap (λ rest. join_with_byte dot (item_texts items rest)) (sym w.if-rest.false)
    ]
