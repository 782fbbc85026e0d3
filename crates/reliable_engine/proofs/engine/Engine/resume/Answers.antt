use Rattle.std.proofs.Common.{length, map, refl}
use Rattle.world_model.specs.Hub.{want_control}
use Rattle.world_model.proofs.Hubs.{places_map}
use Rattle.reliable_engine.proofs.Keeping.{keeps_same, waits_map}
use Rattle.reliable_engine.proofs.engine.Engine.resume.Goals as goal

pub invariant_of-self : goal.invariant_of-self
invariant_of-self c =
    let i = c.self.inside in
    let os = i.open_places in
    rw c.want_all.ensures
    (keeps_same i.first i.window i.sent (length i.bodies.items) os (map want_control os) i.fates.len i.fates.cap
    i.lates.len i.lates.cap
    c.self.invariant (places_map want_control os (λ _. refl)) (waits_map want_control os (λ _. refl) (λ _. refl)))
