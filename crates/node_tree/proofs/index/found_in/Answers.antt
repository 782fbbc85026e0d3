use Rattle.std.proofs.Common.{◌≡◌, get_or, sym, ap, ◌∙◌, rules}
use Rattle.std.proofs.lemmas.Fn.{always_returns_same}
use Rattle.node_tree.proofs.SearchLemmas.{key_cmp, find-place, find-gap, rises}
use Rattle.node_tree.proofs.NamedLemmas.{sorted}
use Rattle.node_tree.proofs.index.found_in.Goals as goal

pub returns-in-Ok : goal.returns-in-Ok
returns-in-Ok c =
    let e = c.index-entries-i.result in
    let held =
    c.in-Ok.ensures.position (key_cmp c.args.name.now)
    (always_returns_same _ _ _ (λ a r f' k. (search rules, search rules))) e in
    let here : e ≡ get_or c.args.entries.now c.in-Ok.i e = c.index-entries-i.is in
    rw (← c.index-entries-i.is)
    (sym (find-place c.args.name.now c.args.entries.now c.in-Ok.i e
    (sorted c.args.entries.now c.requires) c.in-Ok.ensures.bound here (ap (key_cmp c.args.name.now) here ∙ held)))

pub returns-in-Err : goal.returns-in-Err
returns-in-Err c =
    sym (find-gap c.args.name.now c.args.entries.now _
    (c.in-Err.ensures.position (key_cmp c.args.name.now)
    (always_returns_same _ _ _ (λ a r f' k. (search rules, search rules)))
    (rises c.args.name.now c.args.entries.now (sorted c.args.entries.now c.requires))))
