use Rattle.std.proofs.Common.{◌≡◌, [], ◌∷◌, ◌++◌, false, sym, ap, subst, ◌∙◌, string_bytes}
use Rattle.std.proofs.lemmas.Bool.{false≢true}
use Rattle.std.specs.List.{AllByRecursion}
use Rattle.node_tree.specs.Named.{named_entries}
use Rattle.node_tree.specs.Modules.{Mentions, HasUnknown, IsIn, IsFirstTable}
use Rattle.node_tree.proofs.EntryLemmas.{next_place, past_place, no_more, nodes-entry, all-push}
use Rattle.node_tree.proofs.check_modules.first_unknown.Goals as goal

pub loop-name-init : goal.loop-name-init
loop-name-init c =
    ([], sym c.entries-name-items.ensures ∙ ap named_entries (sym c.into_iter-name-iterator.ensures.into_iter_gives.0), tt)

pub loop-name-preserved : goal.loop-name-preserved
loop-name-preserved c =
    let (done, place, none) = c.loop-name.invariant in
    let next =
    next_place c.args.tables.now done
    (c.in-Some.name.now, c.in-Some.table.now) c.next.new.self _ place c.in-Some.ensures.steps in
    let nodes = nodes-entry c.args.tables.now _ c.in-Some.table.now done _ next ∙ sym c.deref.ensures.value in (
      done ++ (string_bytes c.in-Some.name.now, c.in-Some.table.now) ∷ [],
      past_place _ done (c.in-Some.name.now, c.in-Some.table.now) c.next.new.self next,
      all-push (λ e. HasUnknown c.args.tables.now e.0 → ⊥) done _ none
          (λ (m, mention, absent). false≢true
          (sym absent ∙ subst (λ known. IsIn known m) c.by_name.ensures.same
          (c.if-not-has_modules.ensures m (subst (λ ns. Mentions ns m) nodes mention)))),
    )

pub returns-then-not-has_modules : goal.returns-then-not-has_modules
returns-then-not-has_modules c =
    let (done, place, none) = c.loop-name.invariant in
    let next =
    next_place c.args.tables.now done
    (c.in-Some.name.now, c.in-Some.table.now) c.next.new.self _ place c.in-Some.ensures.steps in
    let nodes = nodes-entry c.args.tables.now _ c.in-Some.table.now done _ next ∙ sym c.deref.ensures.value in
    let (m, mention, absent) = c.if-not-has_modules.ensures in
    let unknown : HasUnknown c.args.tables.now (string_bytes c.in-Some.name.now) = (
      m,
      subst (λ ns. Mentions ns m) (sym nodes) mention,
      subst (λ known. Rattle.std.specs.FinMap.contains_key known m ≡ false) c.by_name.ensures.same absent,
    ) in
    let first : IsFirstTable c.args.tables.now (HasUnknown c.args.tables.now) (string_bytes c.in-Some.name.now) =
    record {
      before = done;
      «table» = c.in-Some.table.now;
      after = named_entries c.next.new.self;
      place = next;
      holds = unknown;
      first = none;
    } in
    subst (IsFirstTable c.args.tables.now (HasUnknown c.args.tables.now)) (sym c.as_str.ensures.value) first

pub returns : goal.returns
returns c =
    let (done, place, none) = c.loop-name.invariant in
    subst (AllByRecursion (λ e. HasUnknown c.args.tables.now e.0 → ⊥))
    (sym (no_more c.args.tables.now done _ place c.in-None.ensures.steps.0)) none
