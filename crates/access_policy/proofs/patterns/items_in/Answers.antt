use Rattle.std.proofs.Common.{◌≡◌, sym, ap, ◌∙◌, Some, None, true, false, option_copied, subst}
use Rattle.access_policy.specs.Cutting.{behind, parts_left}
use Rattle.access_policy.specs.Spelling.{is_rest, item_in, items_in, items_in_parts}
use Rattle.access_policy.proofs.ItemsRead.{at_item, at_none, at_rest}
use Rattle.access_policy.proofs.patterns.items_in.Goals as goal

pub returns-then-is_rest : goal.returns-then-is_rest
returns-then-is_rest c =
    let part = c.first_part.result.0.now in
    let left = parts_left (option_copied c.first_part.result.1) in
    let here : behind c.part.items.items (items_in_parts (parts_left (Some c.in-Some.text.now)))
    ≡ items_in c.args.text.now =
    subst (λ left. behind c.part.items.items (items_in_parts (parts_left (option_copied left)))
    ≡ items_in c.args.text.now) c.in-Some.is c.part.invariant in
    ap (λ xs. Some (xs, true)) c.from_vec.ensures
    ∙ sym (at_rest c.part.items.items part left (sym c.if-is_rest.ensures))
    ∙ ap (λ ps. behind c.part.items.items (items_in_parts ps)) (sym c.first_part.ensures.parts) ∙ here

pub returns-in_default-2 : goal.returns-in_default-2
returns-in_default-2 c =
    let part = c.first_part.result.0.now in
    let left = parts_left (option_copied c.first_part.result.1) in
    let here : behind c.part.items.items (items_in_parts (parts_left (Some c.in-Some.text.now)))
    ≡ items_in c.args.text.now =
    subst (λ left. behind c.part.items.items (items_in_parts (parts_left (option_copied left)))
    ≡ items_in c.args.text.now) c.in-Some.is c.part.invariant in
    let none : item_in part ≡ None = sym c.in_ok-item.ensures ∙ c.in_default-2.is in
    let more : is_rest part left ≡ false = sym c.is_rest.ensures ∙ c.if-is_rest.false in
    sym (at_none c.part.items.items part left more none)
    ∙ ap (λ ps. behind c.part.items.items (items_in_parts ps)) (sym c.first_part.ensures.parts) ∙ here

pub part-preserved : goal.part-preserved
part-preserved c =
    let part = c.first_part.result.0.now in
    let left = parts_left (option_copied c.first_part.result.1) in
    let here : behind c.part.items.items (items_in_parts (parts_left (Some c.in-Some.text.now)))
    ≡ items_in c.args.text.now =
    subst (λ left. behind c.part.items.items (items_in_parts (parts_left (option_copied left)))
    ≡ items_in c.args.text.now) c.in-Some.is c.part.invariant in
    let found : item_in part ≡ Some c.in-Some-2.item = sym c.in_ok-item.ensures ∙ c.in-Some-2.is in
    let more : is_rest part left ≡ false = sym c.is_rest.ensures ∙ c.if-is_rest.false in
    ap (λ xs. behind xs (items_in_parts left)) c.in_ok-push.ensures.items
    ∙ sym (at_item c.part.items.items part left c.in-Some-2.item more found)
    ∙ ap (λ ps. behind c.part.items.items (items_in_parts ps)) (sym c.first_part.ensures.parts) ∙ here
