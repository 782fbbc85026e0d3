use Rattle.std.proofs.Common.{◌≡◌, Some, slice_get, ap, arith, ◌∙◌}
use Rattle.std.proofs.lemmas.Grind.{elements}
use Rattle.std.specs.List.{filter}
use Rattle.access_policy.specs.ById.{asks_for, found_in, lower, saying}
use Rattle.access_policy.proofs.FoundById as two
use Rattle.access_policy.proofs.rules_by_id.first_by_id.Goals as goal

pub returns : goal.returns
returns c =
    let rules = c.args.rules.now in
    let place = c.args.sorted.now.place in
    let items = c.args.parts.now in
    let item = c.in-Some.part.now in
    let at : slice_get items place ≡ Some item = grind (arith, elements) in
    let own = c.own_found-own.ensures rules c.requires.sorted
    ∙ ap (λ id. found_in c.args.access items (filter (asks_for place id) rules)) c.id.ensures in
    let other = c.found_in-other.ensures
    ∙ ap (found_in c.args.access items) (c.as_slice.ensures.value ∙ c.requires.sorted.others') in
    c.saying.ensures
    ∙ ap saying (c.lower.ensures ∙ ap (λ one. lower one c.found_in-other.result) own
    ∙ ap (lower (found_in c.args.access items (filter (asks_for place item.id) rules))) other)
    ∙ two.first_by_id c.args.access items place item rules c.requires.rising at
