use Rattle.std.proofs.Common.{◌<◌, ◌∙◌, length, map, ap, sym, refl, arith}
use Rattle.world_model.specs.Hub.{Hub, recover}
use Rattle.world_model.proofs.Hubs.{places_map, recover_place}
use Rattle.reliable_engine.proofs.Keeping.{keeps_same, waits_map, recover_waits}
use Rattle.reliable_engine.proofs.Hubs.{tells, tells_none}
use Rattle.reliable_engine.proofs.engine.Engine.on_status.Goals as goal

pub invariant_of-self : goal.invariant_of-self
invariant_of-self c =
    let i = c.self.inside in
    let os = i.open_places in
    let told = c.in-Some.told in
    rw c.recover_all.ensures
    (keeps_same i.first i.window i.sent (length i.bodies.items) os (map (recover told) os) i.fates.len i.fates.cap
    i.lates.len i.lates.cap
    c.self.invariant (places_map (recover told) os (recover_place told))
    (waits_map (recover told) os (recover_place told) (recover_waits told)))

pub returns-in-Some-clause-taken : goal.returns-in-Some-clause-taken
returns-in-Some-clause-taken c =
    let h = c.args.self.now in
    let next = c.args.status.now.next in
    let round : 0 < h.status_requests =
    omega (arith, ap (λ (x : Hub). x.status_requests) c.self.view_is, c.if-self-eq0.false) in
    (λ _. tells h next c.in-Some.told round (sym c.told_place.ensures ∙ c.in-Some.is), λ _. refl)

pub returns-in-None-clause-taken : goal.returns-in-None-clause-taken
returns-in-None-clause-taken c =
    let h = c.args.self.now in
    let next = c.args.status.now.next in
    (λ e. absurd (cc), λ is. absurd (tells_none h next (sym c.told_place.ensures ∙ c.in-None.is) is))
