use Rattle.std.proofs.Common.{◌<◌, sym, subst, arith}
use Rattle.std.proofs.lemmas.Grind.{common_steps}
use Rattle.std.proofs.lemmas.List.Elements.{Contains-push}
use Rattle.std.specs.List.{Contains}
use Rattle.node_tree.specs.Named.{named_entries}
use Rattle.node_tree.specs.OverlapSearch.{IsTimeline}
use Rattle.node_tree.proofs.NamedLemmas.{sorted}
use Rattle.node_tree.proofs.TimelineLemmas.{closed_at, grows-adds}
use Rattle.node_tree.proofs.overlapping.events.close.Goals as goal

pub begins_with-requires-clause-before : goal.begins_with-requires-clause-before
begins_with-requires-clause-before c =
    c.loop-earlier.invariant.timeline.opened c.in-Some.earlier
    (subst (λ ps. Contains ps c.in-Some.earlier) (sym c.in-Some.ensures.items)
    (Contains-push c.pop.new.self.items c.in-Some.earlier))

pub push_event-requires : goal.push_event-requires
push_event-requires c =
    let before : c.in-Some.earlier < c.args.place =
    c.loop-earlier.invariant.timeline.opened c.in-Some.earlier
    (subst (λ ps. Contains ps c.in-Some.earlier) (sym c.in-Some.ensures.items)
    (Contains-push c.pop.new.self.items c.in-Some.earlier)) in
    omega arith

pub loop-earlier-preserved : goal.loop-earlier-preserved
loop-earlier-preserved c =
    let es = named_entries c.args.entries.now in
    let adds = c.in_ok-push_event.ensures in
    let line =
    subst (λ ps. IsTimeline es c.args.place ps c.loop-earlier.events.items) c.in-Some.ensures.items
    c.loop-earlier.invariant.timeline in
    record {
      timeline =
          closed_at es (sorted c.args.entries.now c.requires.in_order) c.args.place c.in-Some.earlier
          c.pop.new.self.items c.loop-earlier.events.items c.push_event.new.events.items
          c.begins_with.result c.begins_with.ensures c.if-begins_with.false adds line;
      grows =
          λ x y asks. grows-adds es
          (sorted c.args.entries.now c.requires.in_order) adds.entry.1 c.in-Some.earlier _
          c.loop-earlier.events.items c.push_event.new.events.items adds.adds x y
          (c.loop-earlier.invariant.grows x y asks);
    }

pub returns-then-begins_with-clause-timeline : goal.returns-then-begins_with-clause-timeline
returns-then-begins_with-clause-timeline c = grind (arith, common_steps)

pub returns-clause-timeline : goal.returns-clause-timeline
returns-clause-timeline c = grind (arith, common_steps)
