use Rattle.std.proofs.Common.{get_or, sym, subst, ◌∙◌}
use Rattle.std.proofs.lemmas.Bool.{false≢true}
use Rattle.std.proofs.lemmas.List.{take_all}
use Rattle.node_tree.specs.OverlapSearch.{GoesOn, IsPart}
use Rattle.node_tree.proofs.EventLemmas.{read-event, part-none, part-with, part-without, nothing}
use Rattle.node_tree.proofs.overlapping.settling.part.Goals.{then-goes_on+in_ok-push, else-goes_on}
use Rattle.node_tree.proofs.overlapping.settling.part.Goals as goal

pub loop-event-init : goal.loop-event-init
loop-event-init c = rw c.in_ok-some.ensures.items (part-none (GoesOn c.args.covers c.args.first c.args.«end»))

pub loop-event-preserved : goal.loop-event-preserved
loop-event-preserved c =
    let events = c.args.events.now in
    let i = c.loop-event.event-index in
    let e = get_or events i nothing in
    let within = c.loop-event-test.true in
    let here = read-event events i nothing within in
    let goes = GoesOn c.args.covers c.args.first c.args.«end» in
    elim c.if-goes_on.branch [
      | then-goes_on+in_ok-push w ↦ rw (w.some-is, w.in_ok-push.ensures.items)
          (part-with events i e within here goes c.loop-event.some.items
          (c.goes_on.ensures.0 w.if-goes_on.true) c.loop-event.invariant)
      | else-goes_on w ↦ rw w.some-is
          (part-without events i e within here goes c.loop-event.some.items
          (λ own. false≢true (sym w.if-goes_on.false ∙ c.goes_on.ensures.1 own)) c.loop-event.invariant)
    ]

pub returns : goal.returns
returns c =
    subst (λ events. IsPart (GoesOn c.args.covers c.args.first c.args.«end») events c.loop-event.some.items)
    (take_all c.loop-event.event-index c.args.events.now c.loop-event-test.false) c.loop-event.invariant
