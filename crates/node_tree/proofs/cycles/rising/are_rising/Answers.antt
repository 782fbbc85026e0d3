use Rattle.std.proofs.Common.{◌≡◌, Some, None, [], ◌∷◌, ◌++◌, refl, sym, ap, subst, ◌∙◌, string_bytes}
use Rattle.std.specs.List.{AllByRecursion}
use Rattle.std.specs.FinMap.{get}
use Rattle.node_tree.specs.CycleSearch.{AllRanked}
use Rattle.node_tree.proofs.EntryLemmas.{next_place, past_place, no_more, all-push}
use Rattle.node_tree.proofs.CycleLemmas.{IsRising, rising-all}
use Rattle.node_tree.proofs.cycles.rising.are_rising.Goals as goal

pub loop-name-init : goal.loop-name-init
loop-name-init c = (
  [],
  sym c.entries-name-items.ensures
      ∙ ap Rattle.node_tree.specs.Named.named_entries (sym c.into_iter-name-iterator.ensures.into_iter_gives.0),
  tt,
)

pub loop-name-preserved-else-not-all_ranked : goal.loop-name-preserved-else-not-all_ranked
loop-name-preserved-else-not-all_ranked c =
    let (done, place, all) = c.loop-name.invariant in
    let next =
    next_place c.args.tables.now done
    (c.in-Some.name.now, c.in-Some.table.now) c.next.new.self _ place c.in-Some.ensures.steps in
    let got : get c.args.ranks.now (string_bytes c.in-Some.name.now) ≡ Some c.in-Some-get.rank.now =
    ap (get c.args.ranks.now) (sym c.as_str.ensures.value) ∙ sym c.in-Some-get.ensures in
    let from_own : AllRanked c.args.ranks.now c.in-Some-get.rank.now c.in-Some.table.now.nodes.items =
    subst (AllRanked c.args.ranks.now c.in-Some-get.rank.now) c.deref.ensures.value
    (c.if-not-all_ranked.ensures refl) in (
      done ++ (string_bytes c.in-Some.name.now, c.in-Some.table.now) ∷ [],
      past_place _ done (c.in-Some.name.now, c.in-Some.table.now) c.next.new.self next,
      all-push (IsRising c.args.ranks.now) done (string_bytes c.in-Some.name.now, c.in-Some.table.now) all
          (λ rank is. let same : c.in-Some-get.rank.now
          ≡ rank = cc in subst
          (λ least. AllRanked c.args.ranks.now least c.in-Some.table.now.nodes.items) same from_own),
    )

pub loop-name-preserved : goal.loop-name-preserved
loop-name-preserved c =
    let (done, place, all) = c.loop-name.invariant in
    let next =
    next_place c.args.tables.now done
    (c.in-Some.name.now, c.in-Some.table.now) c.next.new.self _ place c.in-Some.ensures.steps in
    let none : get c.args.ranks.now (string_bytes c.in-Some.name.now) ≡ None =
    ap (get c.args.ranks.now) (sym c.as_str.ensures.value) ∙ sym c.in_default.ensures in (
      done ++ (string_bytes c.in-Some.name.now, c.in-Some.table.now) ∷ [],
      past_place _ done (c.in-Some.name.now, c.in-Some.table.now) c.next.new.self next,
      all-push (IsRising c.args.ranks.now) done (string_bytes c.in-Some.name.now, c.in-Some.table.now) all
          (λ rank is. cc),
    )

pub returns : goal.returns
returns c = λ _.
    let (done, place, all) = c.loop-name.invariant in
    rising-all c.args.tables.now c.args.ranks.now
    (subst (AllByRecursion (IsRising c.args.ranks.now))
    (sym (no_more c.args.tables.now done _ place c.in-None.ensures.steps.0)) all)
