use Rattle.std.proofs.Common.{◌<◌, get_or, length, sym, subst, ◌∙◌}
use Rattle.std.proofs.lemmas.Bool.{false≢true}
use Rattle.std.proofs.lemmas.List.{take_all}
use Rattle.node_tree.specs.OverlapSearch.{SettlesWhere}
use Rattle.node_tree.proofs.EventLemmas.{read-event, nothing}
use Rattle.node_tree.proofs.SettlingLemmas.{pass-none, pass-kept, pass-put, pass-asks}
use Rattle.node_tree.proofs.overlapping.settling.settle_where.Goals.{then-event+then-passes, then-event+else-passes}
use Rattle.node_tree.proofs.overlapping.settling.settle_where.Goals.{else-event+then-passes-2, else-event+else-passes-2}
use Rattle.node_tree.proofs.overlapping.settling.settle_where.Goals as goal

pub loop-event-init : goal.loop-event-init
loop-event-init c = pass-none c.args.put c.args.asking c.args.firsts.now

pub loop-event-preserved : goal.loop-event-preserved
loop-event-preserved c =
    let put = c.args.put in
    let asking = c.args.asking in
    let events = c.args.events.now in
    let i = c.loop-event.event-index in
    let e = get_or events i nothing in
    let within = c.loop-event-test.true in
    let here = read-event events i nothing within in
    let old = c.args.firsts.now in
    let f = c.loop-event.firsts in
    let least = c.loop-event.least in
    let pass = c.loop-event.invariant in
    let inside : e.place < length old = c.requires.places i nothing within in
    elim c.if-event.branch [
      | then-event+then-passes w ↦
          rw (w.firsts-is, w.least-is, w.lower_to.ensures)
          (pass-asks put asking events i e within here old f least w.if-event.true
          (w.passes.ensures.0 w.if-passes.true) inside pass)
      | then-event+else-passes w ↦
          rw (w.firsts-is, w.least-is)
          (pass-kept put asking events i e within here old f least
          (λ _ passes. false≢true (sym w.if-passes.false ∙ w.passes.ensures.1 passes))
          (λ put_e _. false≢true (sym put_e ∙ w.if-event.true)) pass)
      | else-event+then-passes-2 w ↦
          rw (w.firsts-is, w.least-is, w.lesser.ensures)
          (pass-put put asking events i e within here old f least w.if-event.false
          (w.passes-else-event.ensures.0 w.if-passes-2.true) pass)
      | else-event+else-passes-2 w ↦
          rw (w.firsts-is, w.least-is)
          (pass-kept put asking events i e within here old f least
          (λ asks_e _. false≢true (sym w.if-event.false ∙ asks_e))
          (λ _ passes. false≢true (sym w.if-passes-2.false ∙ w.passes-else-event.ensures.1 passes)) pass)
    ]

pub returns : goal.returns
returns c =
    subst (λ events. SettlesWhere events c.args.put c.args.asking c.args.firsts.now c.loop-event.firsts)
    (take_all c.loop-event.event-index c.args.events.now c.loop-event-test.false) c.loop-event.invariant.settles
