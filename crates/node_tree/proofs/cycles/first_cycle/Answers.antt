use Rattle.std.proofs.Common.{[], ◌∷◌, ◌++◌, MatchBool, sym, ap, subst, ◌∙◌, string_bytes}
use Rattle.std.specs.List.{AllByRecursion}
use Rattle.node_tree.specs.Named.{named_entries}
use Rattle.node_tree.specs.Modules.{ReachesItself, IsFirstTable}
use Rattle.node_tree.proofs.EntryLemmas.{next_place, past_place, no_more, all-push}
use Rattle.node_tree.proofs.cycles.first_cycle.Goals as goal

pub loop-name-init : goal.loop-name-init
loop-name-init c =
    ([], sym c.entries-name-items.ensures ∙ ap named_entries (sym c.into_iter-name-iterator.ensures.into_iter_gives.0), tt)

pub loop-name-preserved : goal.loop-name-preserved
loop-name-preserved c =
    let (done, place, none) = c.loop-name.invariant in
    let next =
    next_place c.args.tables.now done
    (c.in-Some.name.now, c.in-Some._table.now) c.next.new.self _ place c.in-Some.ensures.steps in
    let ends =
    subst (λ b. MatchBool b (ReachesItself c.args.tables.now c.as_str.result.now)
    (ReachesItself c.args.tables.now c.as_str.result.now → ⊥)) c.if-leads.false c.in_ok-leads.ensures in (
      done ++ (string_bytes c.in-Some.name.now, c.in-Some._table.now) ∷ [],
      past_place _ done (c.in-Some.name.now, c.in-Some._table.now) c.next.new.self next,
      all-push (λ e. ReachesItself c.args.tables.now e.0 → ⊥) done _ none
          (subst (λ name. ReachesItself c.args.tables.now name → ⊥) c.as_str.ensures.value ends),
    )

pub returns-then-leads : goal.returns-then-leads
returns-then-leads c =
    let (done, place, none) = c.loop-name.invariant in
    let next =
    next_place c.args.tables.now done
    (c.in-Some.name.now, c.in-Some._table.now) c.next.new.self _ place c.in-Some.ensures.steps in
    let leads =
    subst (λ b. MatchBool b (ReachesItself c.args.tables.now c.as_str.result.now)
    (ReachesItself c.args.tables.now c.as_str.result.now → ⊥)) c.if-leads.true c.in_ok-leads.ensures in
    let first : IsFirstTable c.args.tables.now (ReachesItself c.args.tables.now) (string_bytes c.in-Some.name.now) =
    record {
      before = done;
      «table» = c.in-Some._table.now;
      after = named_entries c.next.new.self;
      place = next;
      holds = subst (ReachesItself c.args.tables.now) c.as_str.ensures.value leads;
      first = none;
    } in
    subst (IsFirstTable c.args.tables.now (ReachesItself c.args.tables.now))
    (sym c.as_str-then-leads.ensures.value) first

pub returns : goal.returns
returns c =
    let (done, place, none) = c.loop-name.invariant in
    subst (AllByRecursion (λ e. ReachesItself c.args.tables.now e.0 → ⊥))
    (sym (no_more c.args.tables.now done _ place c.in-None.ensures.steps.0)) none
