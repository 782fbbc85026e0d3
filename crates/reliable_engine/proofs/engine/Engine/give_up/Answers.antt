use Rattle.std.proofs.Common.{◌≡◌, ◌-◌, ◌∙◌, List, length, drop, ap, arith}
use Rattle.std.proofs.lemmas.List.{length-drop, length-take-le}
use Rattle.world_model.specs.declared.offered.Offered.{Offered}
use Rattle.reliable_engine.proofs.Places.{up_to_sent}
use Rattle.reliable_engine.proofs.Keeping.{keeps_abandoned}
use Rattle.reliable_engine.proofs.engine.Engine.give_up.Goals as goal

pub put_time_outs-requires-clause-places : goal.put_time_outs-requires-clause-places
put_time_outs-requires-clause-places c =
    let i = c.self.inside in
    let is = c.self.invariant in
    let len = length-take-le i.sent i.bodies.items is.within in
    rw (c.deref.ensures.value, len) (up_to_sent i.window i.sent i.open_places is.in_window)

pub invariant_of-self : goal.invariant_of-self
invariant_of-self c =
    let i = c.self.inside in
    let is = c.self.invariant in
    let cut : length c.truncate.new.self.items ≡ i.sent =
    ap length c.truncate.ensures.items ∙ length-take-le i.sent i.bodies.items is.within in
    let q : length (drop i.sent c.deref-2.result.now) ≡ length i.bodies.items - i.sent =
    length-drop i.sent c.deref-2.result.now
    ∙ ap (λ (xs : List Offered). length xs - i.sent) c.deref-2.ensures.value in
    rw c.abandon_all.ensures
    (keeps_abandoned i.first i.window i.sent (length i.bodies.items) i.open_places i.fates.len i.fates.cap
    i.lates.len i.lates.cap _ _ _ is
    cut (omega (arith, c.put_unsent.ensures.len, c.put_time_outs.ensures.len))
    (omega (arith, c.put_unsent.ensures.capacity, c.put_time_outs.ensures.capacity)))
