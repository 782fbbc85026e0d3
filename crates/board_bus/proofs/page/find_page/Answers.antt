-- the closure gives a page's number
use Rattle.std.proofs.Common.{rules}
use Rattle.std.proofs.lemmas.List.Sorted.{answers_always}
use Rattle.board_bus.proofs.PageEdits.{searched}
use Rattle.board_bus.proofs.page.find_page.Goals as goal

pub returns-clause-found : goal.returns-clause-found
returns-clause-found c =
    let facts = c.binary_search_by_key.ensures in
    let by_number = facts.position (λ page. page.number) (answers_always _ _ _ (λ f a r g called. search rules)) in
    (searched _ c.args.number _ c.requires.rising facts.bound by_number).found

pub returns-clause-absent : goal.returns-clause-absent
returns-clause-absent c =
    let facts = c.binary_search_by_key.ensures in
    let by_number = facts.position (λ page. page.number) (answers_always _ _ _ (λ f a r g called. search rules)) in
    (searched _ c.args.number _ c.requires.rising facts.bound by_number).absent
