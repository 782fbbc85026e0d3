use Rattle.std.proofs.Common.{◌≡◌, get_or, not, false, ◌&&◌, ◌||◌, take, ◌+◌, sym, ◌∙◌, subst}
use Rattle.std.proofs.lemmas.List.{take_all}
use Rattle.node_tree.specs.OverlapSearch.{HasNoneToSettle}
use Rattle.node_tree.proofs.EventLemmas.{read-event, nothing}
use Rattle.node_tree.proofs.SettlingLemmas.{IsQuiet, quiet-none, quiet-more, and_no_one, and_no_other, or_one, or_other}
use Rattle.node_tree.proofs.overlapping.settling.has_none_to_settle.Goals.{else-event-via-then-event+else-is_put, else-event-via-else-event}
use Rattle.node_tree.proofs.overlapping.settling.has_none_to_settle.Goals.{then-is_put-2, else-is_put-2}
use Rattle.node_tree.proofs.overlapping.settling.has_none_to_settle.Goals as goal

pub loop-event-init : goal.loop-event-init
loop-event-init c = quiet-none

pub loop-event-preserved : goal.loop-event-preserved
loop-event-preserved c =
    let events = c.args.events.now in
    let i = c.loop-event.event-index in
    let e = get_or events i nothing in
    let is_put = c.loop-event.is_put in
    let within = c.loop-event-test.true in
    let goes_on : (e.asks && is_put) ≡ false =
    elim c.else-event.branch [
      | else-event-via-then-event+else-is_put w ↦ and_no_other e.asks is_put w.if-is_put.false
      | else-event-via-else-event w ↦ and_no_one e.asks is_put w.if-event.false
    ] in
    let next : c.if-is_put-2.is_put ≡ (is_put || not e.asks) =
    elim c.if-is_put-2.branch [
      | then-is_put-2 w ↦ w.is_put-is ∙ or_one is_put (not e.asks) w.if-is_put-2.true
      | else-is_put-2 w ↦ w.is_put-is ∙ or_other is_put (not e.asks) w.if-is_put-2.false
    ] in
    subst (IsQuiet (take (i + 1) events)) (sym next)
    (quiet-more events i e within (read-event events i nothing within) is_put c.loop-event.invariant goes_on)

pub returns : goal.returns
returns c = λ holds.
    subst HasNoneToSettle (take_all c.loop-event.event-index c.args.events.now c.loop-event-test.false)
    c.loop-event.invariant.none
