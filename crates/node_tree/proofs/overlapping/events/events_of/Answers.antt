use Rattle.std.proofs.Common.{◌≡◌, get_or, length, subst, arith}
use Rattle.std.proofs.lemmas.List.Elements.{Contains-get_or}
use Rattle.node_tree.specs.Named.{named_entries}
use Rattle.node_tree.specs.OverlapSearch.{IsNoted, AreNoted}
use Rattle.node_tree.proofs.NamedLemmas.{sorted, length-named}
use Rattle.node_tree.proofs.NotingLemmas.{lowers-same, lowers-more}
use Rattle.node_tree.proofs.TimelineLemmas.{timeline-none, next, noted-next}
use Rattle.node_tree.proofs.overlapping.events.events_of.Goals as goal

pub loop-place-init : goal.loop-place-init
loop-place-init c =
    rw (c.in_ok-events.ensures.items, c.new-open_places.ensures.items)
    record {
      timeline = timeline-none (named_entries c.args.entries.now);
      lowers = lowers-same (named_entries c.args.entries.now) c.args.firsts.now;
      noted = λ a b less within. absurd (omega arith);
    }

pub note_each-requires-clause-before : goal.note_each-requires-clause-before
note_each-requires-clause-before c = λ k d less.
    c.in_ok-close.ensures.timeline.opened (get_or c.deref.result.now k d)
    (subst (λ ps. Rattle.std.specs.List.Contains ps (get_or c.deref.result.now k d)) c.deref.ensures.value
    (Contains-get_or c.deref.result.now k d less))

pub loop-place-preserved : goal.loop-place-preserved
loop-place-preserved c =
    let es = named_entries c.args.entries.now in
    let order = sorted c.args.entries.now c.requires.in_order in
    let k = c.loop-place.place in
    let events = c.close.new.events.items in
    let open_places = c.close.new.open_places.items in
    let adds = c.in_ok-push_event.ensures in
    let noted =
    subst (λ ps. IsNoted es c.loop-place.firsts c.note_each.new.firsts ps k) c.deref.ensures.value
    c.note_each.ensures in
    rw c.in_ok-push.ensures.items
    record {
      timeline =
          next es order k open_places events c.push_event.new.events.items adds.entry adds.there adds.word adds.adds
          c.in_ok-close.ensures.timeline;
      lowers =
          lowers-more es c.args.firsts.now c.loop-place.firsts c.note_each.new.firsts c.loop-place.invariant.lowers
          noted.lowers;
      noted =
          noted-next es order k open_places events c.loop-place.events.items c.push_event.new.events.items
          c.loop-place.firsts c.note_each.new.firsts adds.entry adds.there adds.adds
          c.in_ok-close.ensures.grows noted c.in_ok-close.ensures.timeline c.loop-place.invariant.noted;
    }

pub returns : goal.returns
returns c =
    let es = named_entries c.args.entries.now in
    let same : c.loop-place.place ≡ length es =
    omega (arith, length-named c.args.entries.now, c.loop-place-test.false) in
    record {
      each = c.loop-place.invariant.timeline.each;
      sound = c.loop-place.invariant.timeline.sound;
      lowers = c.loop-place.invariant.lowers;
      noted = subst (AreNoted es c.loop-place.firsts c.loop-place.events.items) same c.loop-place.invariant.noted;
    }
